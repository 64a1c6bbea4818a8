mod Summing
mod WeighedSums
mod AlignedSums
