mod Clashes
