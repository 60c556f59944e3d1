-- How large the parts of a picture are, in pixels: whole numbers, by how many slots and lanes there are.
use Rattle.std.specs.Prelude.{ℕ, ◌+◌, ◌*◌, ◌≤◌, ◌<◌, ◌^◌, nat_le, if◌then◌else◌, max}
use Rattle.pfx_program_draw.specs.declared.sizes.Widths.{Widths}
use Rattle.pfx_program_draw.specs.declared.sizes.Heights.{Heights}
use Rattle.pfx_program_draw.specs.declared.sizes.PictureSizes.{PictureSizes}

-- the width of one of so many slots, and how many there are from one number above them to the next
abbrev pub widths_for : ℕ → Widths
widths_for slots =
    if nat_le slots 24 then record { slot = 36; tick = 2 } else
    (if nat_le slots 60 then record { slot = 18; tick = 5 } else
    (if nat_le slots 120 then record { slot = 9; tick = 10 } else
    (if nat_le slots 360 then record { slot = 4; tick = 20 } else record { slot = 2; tick = 50 })))

-- the height of one of so many lanes, of its bars and of one slot of lag, and where in it the bars and the line of no lag are
abbrev pub heights_for : ℕ → Heights
heights_for lanes =
    if nat_le lanes 16 then record { lane = 48; bar = 12; middle = 10; lag = 13; zero = 32 } else
    (if nat_le lanes 48 then record { lane = 28; bar = 7; middle = 7; lag = 7; zero = 19 } else
    record { lane = 10; bar = 4; middle = 5; lag = 0; zero = 5 })

-- the room left of the slots, for names of so many letters and weights e/p of numbers of so many digits
abbrev pub left_for : ℕ → ℕ → ℕ → ℕ
left_for lanes letters digits = if nat_le lanes 48 then 39 + 7 * letters + 14 * digits else 24 + 6 * letters

-- the room right of them, for lags and their decimals
abbrev pub right_for : ℕ → ℕ → ℕ
right_for lanes digits = if nat_le lanes 48 then 78 + 14 * digits else 20

abbrev pub sizes_for : ℕ → ℕ → ℕ → ℕ → ℕ → PictureSizes
sizes_for first slots lanes letters digits = record {
  first = first;
  slots = slots;
  lanes = lanes;
  widths = widths_for slots;
  heights = heights_for lanes;
  left = left_for lanes letters digits;
  right = right_for lanes digits;
}

-- where the i-th slot begins, and where the lane of task x does
abbrev pub x_at : PictureSizes → ℕ → ℕ
x_at s i = s.left + i * s.widths.slot

abbrev pub y_at : PictureSizes → ℕ → ℕ
y_at s x = 64 + x * s.heights.lane

-- where the slots end, and where the lanes do
abbrev pub slots_end : PictureSizes → ℕ
slots_end s = x_at s s.slots

abbrev pub lanes_end : PictureSizes → ℕ
lanes_end s = y_at s s.lanes

-- the whole picture; the texts at its top need 720
abbrev pub width : PictureSizes → ℕ
width s = max 720 (slots_end s + s.right)

abbrev pub height : PictureSizes → ℕ
height s = lanes_end s + 34

-- a picture that can be drawn: none of its numbers is large
pub record IsDrawable (s : PictureSizes) : Type 0 where
  pub first : s.first < 2 ^ 40
  pub slots : s.slots ≤ 1440
  pub lanes : s.lanes ≤ 1152
  pub slot : s.widths.slot ≤ 36
  pub tick : s.widths.tick ≤ 50
  pub some : 1 ≤ s.widths.tick
  pub lane : s.heights.lane ≤ 48
  pub lag : s.heights.lag ≤ 13
  pub middle : s.heights.middle ≤ 48
  pub zero : s.heights.zero ≤ 48
  pub left : s.left ≤ 65536
  pub right : s.right ≤ 65536
