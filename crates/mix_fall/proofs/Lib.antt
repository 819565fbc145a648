mod LongFalls
