-- The definitions at worked texts.
use Rattle.std.proofs.Common.{◌≡◌, ◌∷◌, [], ◌^◌, ◌++◌, Some, None, pos, neg_ℤ, refl}
use Rattle.std.specs.Prelude.{codes, map, replicate}
use Rattle.csv.proofs.OnLiterals.{csv_on_literals}
use Rattle.gtfs_fields.specs.Records.{records_of, field_of, width_of}
use Rattle.gtfs_fields.specs.Spaces.{trimmed}
use Rattle.gtfs_fields.specs.WholeNumber.{whole_value}
use Rattle.gtfs_fields.specs.DegreeText.{degree_value}
use Rattle.gtfs_fields.specs.HexColour.{colour_value}

-- spaces
both_ends : trimmed (codes "  a b ") ≡ codes "a b"
both_ends = refl

only_spaces : trimmed (codes "   ") ≡ []
only_spaces = refl

tabs_stay : trimmed (codes "\t1") ≡ codes "\t1"
tabs_stay = refl

-- whole numbers
leading_zeros : whole_value (codes "0007") ≡ Some 7
leading_zeros = refl

greatest : whole_value (codes " 4294967295 ") ≡ Some 4294967295
greatest = refl

too_great : whole_value (codes "4294967296") ≡ None
too_great = refl

zeros_and_greatest : whole_value (codes "00000000000000004294967295") ≡ Some 4294967295
zeros_and_greatest = refl

signed_whole : whole_value (codes "+1") ≡ None
signed_whole = refl

inner_space : whole_value (codes "1 2") ≡ None
inner_space = refl

other_wholes : map whole_value (codes "0" ∷ codes "  12 " ∷ codes "4294967295" ∷ [])
    ≡ Some 0 ∷ Some 12 ∷ Some 4294967295 ∷ []
other_wholes = refl

no_wholes : map whole_value (codes "99999999999999999999999999" ∷ [] ∷ codes "-0" ∷ codes "\t1" ∷ []) ≡ replicate 4 None
no_wholes = refl

digits_lose_nothing : whole_value (replicate 400 48 ++ codes "42") ≡ Some 42
digits_lose_nothing = refl

no_whole : whole_value (codes "  ") ≡ None
no_whole = refl

-- degree texts
small_and_negative : degree_value (codes "-1E-4") ≡ Some (neg_ℤ (pos 100))
small_and_negative = refl

no_exponent_digit : degree_value (codes "9e") ≡ None
no_exponent_digit = refl

six_decimals : degree_value (codes "0.010000") ≡ Some (pos 10000)
six_decimals = refl

seventh_decimal_cut : degree_value (codes "-0.0000019") ≡ Some (neg_ℤ (pos 1))
seventh_decimal_cut = refl

spaced : degree_value (codes " 1.5 ") ≡ Some (pos 1500000)
spaced = refl

no_units : degree_value (codes ".5") ≡ Some (pos 500000)
no_units = refl

no_decimals : degree_value (codes "5.") ≡ Some (pos 5000000)
no_decimals = refl

point_alone : degree_value (codes ".") ≡ None
point_alone = refl

sign_alone : degree_value (codes "+") ≡ None
sign_alone = refl

two_signs : degree_value (codes "+-1") ≡ None
two_signs = refl

two_points : degree_value (codes "1.2.3") ≡ None
two_points = refl

exponent_with_sign : degree_value (codes "1e+05") ≡ Some (pos 100000000000)
exponent_with_sign = refl

three_exponent_digits : degree_value (codes "1e100") ≡ None
three_exponent_digits = refl

three_zeros_in_exponent : degree_value (codes "1e000") ≡ None
three_zeros_in_exponent = refl

least_exponent : degree_value (codes "1E-99") ≡ Some (pos 0)
least_exponent = refl

two_marks : degree_value (codes "1e2e3") ≡ None
two_marks = refl

mark_alone : degree_value (codes "e5") ≡ None
mark_alone = refl

point_in_exponent : degree_value (codes "1e1.5") ≡ None
point_in_exponent = refl

greatest_degree : degree_value (codes "-1000000") ≡ Some (neg_ℤ (pos (10 ^ 12)))
greatest_degree = refl

greatest_degree_cut : degree_value (codes "1000000.00000099") ≡ Some (pos (10 ^ 12))
greatest_degree_cut = refl

past_greatest_degree : degree_value (codes "1000000.000001") ≡ None
past_greatest_degree = refl

small_times_great : degree_value (codes "0.0000000000000000000000000000000000000000000000000000000000000000000000000000000000000000000000000123e99") ≡ Some (pos 12300000)
small_times_great = refl

other_degrees : map degree_value (codes "-1E-99" ∷ codes "48.2081743" ∷ codes "-48.2081749" ∷ codes "+16.3738189e0"
    ∷ codes "0.9999999" ∷ codes "-0.9999999" ∷ [])
    ≡ Some (pos 0) ∷ Some (pos 48208174) ∷ Some (neg_ℤ (pos 48208174)) ∷ Some (pos 16373818) ∷ Some (pos 999999)
    ∷ Some (neg_ℤ (pos 999999)) ∷ []
other_degrees = refl

degrees_by_powers : map degree_value (codes "1234567E-7" ∷ codes "9999999E-8" ∷ codes "1000000" ∷ codes "1e6"
    ∷ codes "0e99" ∷ codes "-1000000.0000009" ∷ [])
    ≡ Some (pos 123456) ∷ Some (pos 99999) ∷ Some (pos (10 ^ 12)) ∷ Some (pos (10 ^ 12)) ∷ Some (pos 0)
    ∷ Some (neg_ℤ (pos (10 ^ 12))) ∷ []
degrees_by_powers = refl

no_degrees : map degree_value ([] ∷ codes "--1" ∷ codes "- 1" ∷ codes "1e1." ∷ []) ≡ replicate 4 None
no_degrees = refl

-- hundreds of digits lose nothing
long_degrees : map degree_value ((replicate 392 48 ++ codes "1.25") ∷ (codes "-1." ++ replicate 392 48 ++ codes "1")
    ∷ (codes "0." ++ replicate 398 57) ∷ replicate 400 57 ∷ [])
    ≡ Some (pos 1250000) ∷ Some (neg_ℤ (pos 1000000)) ∷ Some (pos 999999) ∷ None ∷ []
long_degrees = refl

-- colours
mixed_case : colour_value (codes "FFffFf") ≡ Some (255 ∷ 255 ∷ 255 ∷ [])
mixed_case = refl

red_green_blue : colour_value (codes "e6194b") ≡ Some (230 ∷ 25 ∷ 75 ∷ [])
red_green_blue = refl

seven_digits : colour_value (codes "e6194b0") ≡ None
seven_digits = refl

no_hexadecimal_digit : colour_value (codes "e6194g") ≡ None
no_hexadecimal_digit = refl

spaced_colour : colour_value (codes " 6194b") ≡ None
spaced_colour = refl

other_colours : map colour_value (codes "090A0f" ∷ codes "e6194" ∷ [] ∷ []) ≡ Some (9 ∷ 10 ∷ 15 ∷ []) ∷ None ∷ None ∷ []
other_colours = refl

-- records
two_rows : records_of (0xEF ∷ 0xBB ∷ 0xBF ∷ codes "a,\"b,\"\"c\"\r\n\r\n d ,,\"\n\"") ≡ (codes "a" ∷ codes "b,\"c" ∷ []) ∷ (codes " d " ∷ [] ∷ codes "\n" ∷ []) ∷ []
unfolding csv_on_literals
two_rows = refl

one_mark_goes : records_of (0xEF ∷ 0xBB ∷ 0xBF ∷ 0xEF ∷ 0xBB ∷ 0xBF ∷ codes "a") ≡ ((0xEF ∷ 0xBB ∷ 0xBF ∷ codes "a") ∷ []) ∷ []
unfolding csv_on_literals
one_mark_goes = refl

second_field : field_of (records_of (codes "a,b\n1,2,3\n")) 1 2 ≡ codes "3"
unfolding csv_on_literals
second_field = refl

second_width : width_of (records_of (codes "a,b\n1,2,3\n")) 1 ≡ 3
unfolding csv_on_literals
second_width = refl

-- fields behind the header's, fewer fields, and the last row without an end
ragged_rows : records_of (0xEF ∷ 0xBB ∷ 0xBF ∷ codes "id,name\r\n\r\n1,\"Main, \"\"A\"\"\n & B\",,more\r\n2\n, x ,")
    ≡ (codes "id" ∷ codes "name" ∷ []) ∷ (codes "1" ∷ codes "Main, \"A\"\n & B" ∷ [] ∷ codes "more" ∷ []) ∷ (codes "2"
    ∷ []) ∷ ([] ∷ codes " x " ∷ [] ∷ []) ∷ []
unfolding csv_on_literals
ragged_rows = refl

empty_lines : records_of (codes "\n\r\n") ≡ []
unfolding csv_on_literals
empty_lines = refl

-- a quote that is not closed
unfinished_row : records_of (codes "id,name\r\n\r\n7,\"A, B\",\"\"\"C\"\"\"d\n\"8")
    ≡ (codes "id" ∷ codes "name" ∷ []) ∷ (codes "7" ∷ codes "A, B" ∷ codes "\"C\"d" ∷ []) ∷ (codes "8" ∷ []) ∷ []
unfolding csv_on_literals
unfinished_row = refl
