mod RowParts
mod StretchRays
mod Found
