mod Near
mod NearSize
mod Samples
