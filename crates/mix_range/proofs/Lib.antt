mod Ceilings
mod HighPoints
mod LargestRises
mod LongRises
