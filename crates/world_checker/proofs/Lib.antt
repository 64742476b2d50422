mod Places
mod Showing
mod Pairs
mod Comparing
mod Linking
mod ToldOf
mod Beginning
