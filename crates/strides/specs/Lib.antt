pub mod FaceStrides
