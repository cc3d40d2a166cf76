-- Laws of the two editions' widths: by cases on the edition. Assumes nothing.
use Prim.Native.Nat.{ℕ, ◌+◌, ◌<◌, ◌^◌}
use mathlib.Core.Path.{◌≡◌, refl}
use mathlib.Core.Bool.{Bool, true, false}
use lib.Dec.{leb}
use borrow.Author.Tests.{lt-leb}
use Rattle.samples.specs.Layout.{field_widths, sample_length, total, widths}
use Rattle.samples.specs.Places.{counter_place, last_of, user_place}
use Rattle.samples.specs.declared.edition.Edition.{Edition}
use Rattle.samples.specs.declared.edition.Edition.TheVariants.{First, Second}

-- the second edition's user data has all bytes of a number of 64 bits: no such number is above its width
pub user_never_above : (user : ℕ) → user < 2 ^ 64 → leb (256 ^ (widths Second).user_bytes) user ≡ false
user_never_above user h = lt-leb (256 ^ 8) user h

-- the places by number are those of the widths
pub user_place_lem : (ed : Edition) → user_place ed ≡ 5 + (widths ed).stamp_bytes
user_place_lem First = refl
user_place_lem Second = refl

pub counter_place_lem : (ed : Edition) → counter_place ed ≡ total (field_widths (widths ed))
counter_place_lem First = refl
counter_place_lem Second = refl

-- and so is the last one
pub last_of_lem : (ed : Edition) (r : Bool) → sample_length (widths ed) r ≡ last_of ed r + 1
last_of_lem First true = refl
last_of_lem First false = refl
last_of_lem Second true = refl
last_of_lem Second false = refl
