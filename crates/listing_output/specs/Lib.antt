-- What the listing program prints, and how the code prints it into a lent output.
pub mod Listings
pub mod Outputs
pub mod Printed
pub mod Schedules
