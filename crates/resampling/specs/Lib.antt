pub mod RowOfRays
