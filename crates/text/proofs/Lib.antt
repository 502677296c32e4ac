mod Reading
mod Serving
mod Starting
