pub mod OpenCalls
pub mod OwnWorld
pub mod Laws
