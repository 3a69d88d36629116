mod Sizes
mod Bodies
mod Fields
mod Starts
mod Finding
