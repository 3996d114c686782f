-- The legends of five and of two hundred lines.
use Rattle.std.proofs.Common.{◌≡◌, pos, refl}
use Rattle.poster_plan.specs.declared.layout.Legend.{Legend}
use Rattle.poster_plan.specs.Legends.{legend_height, legend_width, row_at, rows_for}

few_rows : rows_for 5 ≡ 12
few_rows = refl

-- 28 times 28 is less than four times 200
many_rows : rows_for 200 ≡ 29
many_rows = refl

-- seven columns, where the widest name is 60 units wide
width : legend_width 200 60 ≡ 1410
width = refl

height : legend_height 200 ≡ 1290
height = refl

-- the second row of the second column
row : row_at (record { start = record { x = pos 0; y = pos 0 }; column = 210; rows = 29 }) 30 ≡ record { x = pos 210; y = pos 60 }
row = refl
