mod Acts
mod Driving
mod Made
mod Nobody
mod Scanning
