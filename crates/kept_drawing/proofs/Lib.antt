mod Graphs
