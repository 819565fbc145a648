pub mod LongFalls
