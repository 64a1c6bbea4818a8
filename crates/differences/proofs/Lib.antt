mod Adding
mod Squares
