pub mod ConvertedPlane
