pub mod Halves
pub mod SteadyWeather
