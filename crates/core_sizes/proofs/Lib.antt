mod ExprNodes
mod CodeNodes
mod Levels
