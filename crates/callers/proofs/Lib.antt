mod Heard
mod Two
