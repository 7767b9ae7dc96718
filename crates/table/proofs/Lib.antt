mod Painted
