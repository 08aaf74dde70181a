pub mod Numbers
pub mod Plans
pub mod Walked
pub mod Units
pub mod Surroundings
pub mod Overviews
