mod Inert
mod Written
