mod Scanning
mod Keeping
mod Passes
