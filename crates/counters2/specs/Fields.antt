-- Document 001, "Resource Counter Control Registers" and Tables B5 to B7: Enable, Mode and Clock Select, 64 bits each, "divided into 16 4-bit
-- fields, one for each of the 16 Resource Counters": field i in bits 4i to 4i + 3.
use Rattle.std.specs.Prelude.{ℕ, zero, suc, ◌+◌, ◌*◌, ◌/◌, ◌%◌, ◌^◌, Bool, true, cond, not, ◌&&◌, ◌==◌}
use Rattle.counters2.specs.declared.fields.Fields.{Fields}

abbrev pub field_at : ℕ → ℕ → ℕ
field_at x i = x / 2 ^ (4 * i) % 16

-- "a zero value written into any field leaves that field unchanged": zero in its low bits, of which there are two in Enable (Table B7, "xx00
-- NOP") and three in Mode and Clock Select (Tables B5 and B6, "x000 NOP"); any other is held as written, all four bits
abbrev pub kept : ℕ → ℕ → ℕ → ℕ
kept low old new = cond (new % low == 0) old new

-- n fields, from the lowest on
unfoldable pub written_fields : ℕ → ℕ → ℕ → ℕ → ℕ
written_fields zero low old new = 0
written_fields (suc n) low old new = kept low (old % 16) (new % 16) + 16 * written_fields n low (old / 16) (new / 16)

-- the three registers after a write of one of them
abbrev pub enabling : ℕ → Fields → Fields
enabling bits f = record { enable = written_fields 16 4 f.enable bits; mode = f.mode; select = f.select }

abbrev pub moding : ℕ → Fields → Fields
moding bits f = record { enable = f.enable; mode = written_fields 16 8 f.mode bits; select = f.select }

abbrev pub clocking : ℕ → Fields → Fields
clocking bits f = record { enable = f.enable; mode = f.mode; select = written_fields 16 8 f.select bits }

-- n fields of one number
abbrev pub alike : ℕ → ℕ → ℕ
alike zero field = 0
alike (suc n) field = field + 16 * alike n field

-- after a reset: "** default setting" of the tables, disabled, external and single, Timestamp clock; their x bits 0 (house)
abbrev pub fresh_fields : Fields
fresh_fields = record { enable = alike 16 1; mode = alike 16 4; select = alike 16 4 }

-- Wish 10 of document 02, "disable all counters": "every Enable field is 0001" (docs/DECISIONS.md), as after a reset; Mode and Clock Select stay
abbrev pub disabled : Fields → Fields
disabled f = record { enable = alike 16 1; mode = f.mode; select = f.select }

-- Wish 10 of document 02: "a saved field that its register can never hold". No write leaves one that is zero in its low bits: none of n fields is
unfoldable pub none_zero : ℕ → ℕ → ℕ → Bool
none_zero zero low x = true
none_zero (suc n) low x = not (x % 16 % low == 0) && none_zero n low (x / 16)

-- "an Enable field with low bits 00, a Mode or Clock Select field with low bits 000, which no operation can make a register hold" (docs/DECISIONS.md): none is
abbrev pub holdable : Fields → Bool
holdable f = none_zero 16 4 f.enable && (none_zero 16 8 f.mode && none_zero 16 8 f.select)
