mod Nearness
