-- When the jobs of a script fire: jobs that wait, and the forecast.
pub mod Pending
pub mod Forecast
