-- Two codes joined: the first one's fields and digits before the second's.
use Rattle.std.specs.Prelude.{◌≡◌, ℕ, ◌+◌, ◌<◌, min, List, ◌++◌, length, take, drop, slice_index_or}
use Rattle.codes.specs.declared.joined.Part.{Part}
use Rattle.codes.specs.declared.joined.Part.TheVariants.{First, Second}
use Rattle.codes.specs.Meaning.{Field, Meaning, no_field}

abbrev pub joined : Meaning → Meaning → Meaning
joined m n = record {
  fields = m.fields ++ n.fields;
  size = m.size + n.size;
  value_word = λ vs. m.value_word (take (length m.fields) vs) ++ n.value_word (drop (length m.fields) vs);
  box_word = λ bs. m.box_word (take (length m.fields) bs) ++ n.box_word (drop (length m.fields) bs);
}

-- which of the two codes has a field of the joined one, and as which of its own
abbrev pub Located : List Field → List Field → ℕ → Part → Type 0
Located fs gs field (First i) = (i < min 65535 (length fs)) × (slice_index_or fs i no_field ≡ slice_index_or (fs ++ gs) field no_field)
Located fs gs field (Second i) = (i < min 65535 (length gs)) × (slice_index_or gs i no_field ≡ slice_index_or (fs ++ gs) field no_field)
