mod Appends
mod Failing
mod Kept
mod Watching
