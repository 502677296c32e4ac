mod Driving
mod Replies
mod Serving
mod Listed
