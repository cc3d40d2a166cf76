-- docs/DECISIONS.md, "The MultiKron II": "A field that no operation can leave (Enable with low bits 00, Mode or Clock Select with 000)". What the three
-- registers hold where no field is such a one.
use Rattle.std.specs.Prelude.{ℕ, ◌%◌, ◌<◌, ◌≡◌}
use Rattle.counters2.specs.Fields.{field_at}
use Rattle.counters2.specs.declared.fields.Fields.{Fields}

abbrev pub Leavable : Fields → Type 0
Leavable f = (i : ℕ) → i < 16 → (field_at f.enable i % 4 ≡ 0 → ⊥) × ((field_at f.mode i % 8 ≡ 0 → ⊥) × (field_at f.select i % 8 ≡ 0 → ⊥))
