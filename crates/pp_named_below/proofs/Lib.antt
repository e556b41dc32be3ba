mod Reading
mod Taking
mod Lying
mod Searching
