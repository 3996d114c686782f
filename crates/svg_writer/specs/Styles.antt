-- How the map on the grid looks.
use Rattle.svg_writer.specs.declared.style.Style.{Style}

-- how a map on the grid looks, on which one grid step is 100 units
abbrev pub grid_style : Style
grid_style = record { margin = 200; stroke = 12; rim = 4; radius_each = 7; radius_more = 3; gap = 4; font = 20 }
