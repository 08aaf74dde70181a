mod Levels
mod Counts
mod Running
mod MainCall
mod Machines
