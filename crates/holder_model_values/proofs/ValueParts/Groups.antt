-- Structs and tuples: their leaves are those of their members in order, and they suit where each member does.
use Rattle.std.proofs.Common.{◌≡◌, ◌+◌, ◌++◌, ℕ, suc, List, [], ◌∷◌, Some, true, map, length, take, drop, refl, sym, ap, ◌∙◌, arith}
use Rattle.std.specs.Prelude.{option_and_then, slice_get}
use Rattle.std.specs.List.{flat_map}
use Rattle.std.proofs.lemmas.Bool.{and_parts, false≢true}
use Rattle.sil_types_declarations.specs.numbered_form.Names.{Name}
use Rattle.holder_model_values.specs.RunValues.inner.Fits.{fit_each}
use Rattle.holder_model_values.specs.RunValues.Leaves.{leaves_each, leaves_layer, leaves_of}
use Rattle.holder_model_values.specs.RunValues.Shapes.{Shape, Shapes, Struct, Tuple, each_by_layers, listed, member_shapes, members_of}
use Rattle.holder_model_values.specs.RunValues.Values.{Value, Group, grouped, values_of}
use Rattle.holder_model_values.specs.RunValues.Values as value
use Rattle.holder_model_values.specs.ValueParts.inner.LeafLists.{leaf_lists}
use Rattle.holder_model_values.specs.ValueParts.inner.Paths.{here, inside, leaf_count, leaf_offset, member_at, part_at}
use Rattle.holder_model_values.specs.ValueParts.inner.Suits.{ClassTest, suits, suits_layer}
use Rattle.holder_model_values.proofs.ValueParts.LeafParts.{leaves_read}
use Rattle.holder_model_values.proofs.ValueParts.Members.{each_told, group_again, listed_again}

pub members_again : (ss : List Shape) → listed (members_of ss) ≡ ss
members_again [] = refl
members_again (s ∷ ss) = ap (λ ts. s ∷ ts) (members_again ss)

-- leaves

each_listed : (ss : List Shape) (vs : List Value) → leaves_each (each_by_layers leaves_layer (members_of ss)) vs ≡ flat_map (λ ls. ls) (leaf_lists ss vs)
each_listed [] vs = refl
each_listed (s ∷ ss) [] = refl
each_listed (s ∷ ss) (v ∷ vs) = ap (λ ls. leaves_of s v ++ ls) (each_listed ss vs)

pub tuple_leaves : (ss : List Shape) (vs : List Value) → leaves_of (Tuple (members_of ss)) (grouped vs) ≡ flat_map (λ ls. ls) (leaf_lists ss vs)
tuple_leaves ss vs = ap (leaves_each (each_by_layers leaves_layer (members_of ss))) (listed_again vs) ∙ each_listed ss vs

pub struct_leaves : (name : Name) (ss : List Shape) (vs : List Value) → leaves_of (Struct name (members_of ss)) (grouped vs) ≡ flat_map (λ ls. ls) (leaf_lists ss vs)
struct_leaves name ss vs = tuple_leaves ss vs

-- which suit

module _ (test : ClassTest) where
  pub tuple_suits : (ss : List Shape) (vs : List Value) → suits test (Tuple (members_of ss)) (grouped vs) ≡ fit_each (map (suits test) ss) vs
  tuple_suits ss vs =
      ap (λ ts. fit_each ts (value.listed (values_of vs))) (each_told (suits_layer test) (members_of ss) ∙ ap (map (suits test)) (members_again ss))
      ∙ ap (fit_each (map (suits test) ss)) (listed_again vs)

  pub struct_suits : (name : Name) (ss : List Shape) (vs : List Value) → suits test (Struct name (members_of ss)) (grouped vs) ≡ fit_each (map (suits test) ss) vs
  struct_suits name ss vs = tuple_suits ss vs

  -- a suiting value is the group of its members, each of which suits
  pub suits_tuple : (ss : Shapes) (v : Value) → suits test (Tuple ss) v ≡ true
      → (vs : List Value) × (value.members_of v ≡ Some vs) × (v ≡ grouped vs) × (fit_each (map (suits test) (listed ss)) vs ≡ true)
  suits_tuple ss (Group vs) h = (value.listed vs, refl, sym (group_again vs), sym (ap (λ ts. fit_each ts (value.listed vs)) (each_told (suits_layer test) ss)) ∙ h)
  suits_tuple ss v h = absurd (false≢true h)

  pub each_length : (ss : List Shape) (vs : List Value) → fit_each (map (suits test) ss) vs ≡ true → length vs ≡ length ss
  each_length [] [] h = refl
  each_length [] (v ∷ vs) h = absurd (false≢true h)
  each_length (s ∷ ss) [] h = absurd (false≢true h)
  each_length (s ∷ ss) (v ∷ vs) h = ap suc (each_length ss vs (and_parts (suits test s v) (fit_each (map (suits test) ss) vs) h).1)

  -- the leaves of a member
  pub member_leaves : (s t : Shape) (k : ℕ) (v x : Value) → slice_get (member_shapes s) k ≡ Some t → suits test s v ≡ true → member_at v k ≡ Some x
      → take (leaf_count t) (drop (leaf_offset (member_shapes s) k) (leaves_of s v)) ≡ leaves_of t x
  member_leaves s t k v x e h is =
      let first : leaf_offset (member_shapes s) k ≡ leaf_offset (member_shapes s) k + 0 = omega arith in
      ap (λ n. take (leaf_count t) (drop n (leaves_of s v))) first ∙ leaves_read test (inside e here) v x h (ap (option_and_then (λ y. part_at y [])) is)
