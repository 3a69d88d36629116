mod Untested
