pub mod Laws
mod Loop
