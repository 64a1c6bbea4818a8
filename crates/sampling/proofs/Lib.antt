mod NearestValues
pub mod ByLayout
