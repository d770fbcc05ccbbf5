-- Each value of a function is defined at a point.
use Rattle.std.proofs.Common.{◌≡◌, ℕ, suc, ◌<◌, List, [], ◌∷◌, length, map, refl, sym, ◌∙◌, arith, true, ◌⊎◌, inl, inr, Some}
use Rattle.std.specs.Prelude.{Contains, slice_get}
use Rattle.std.specs.List.{flat_map, list_any}
use Rattle.std.proofs.lemmas.Option.{slice_get-map}
use Rattle.sil_ast.specs.declared.function.Block.{Block}
use Rattle.sil_ast.specs.declared.function.Function.{Function}
use Rattle.sil_ast.specs.declared.place.ValueId.{ValueId}
use Rattle.numbered_form.proofs.Counted.{any_counted, stands_somewhere}
use Rattle.numbered_form.proofs.Lists.{any_cases, contained, mapped_from}
use Rattle.numbered_form.specs.Insts.{insts_of}
use Rattle.numbered_form.specs.Numbering.{AreCountedFrom, defined_in, is_value, results_of, value_of, values_of}
use Rattle.ownership_kinds.specs.Statics.{IsDefinedAt, argument, result}

module _ (v : ValueId) where
  -- the value is among these
  abbrev IsAmong : List ValueId → Type 0
  IsAmong vs = list_any (is_value v) vs ≡ true

  -- a value of several lists together is in one of them
  in_piece : {A : Type 0} (g : A → List ValueId) (xs : List A) → IsAmong (flat_map g xs) → (k : ℕ) × (x : A) × (slice_get xs k ≡ Some x) × IsAmong (g x)
  in_piece g [] e = absurd (cc)
  in_piece {A} g (x ∷ xs) e = at (any_cases (is_value v) (g x) (flat_map g xs) e) (λ h. in_piece g xs h)
    where
      at : IsAmong (g x) ⊎ IsAmong (flat_map g xs) → (IsAmong (flat_map g xs) → (k : ℕ) × (y : A) × (slice_get xs k ≡ Some y) × IsAmong (g y))
          → (k : ℕ) × (y : A) × (slice_get (x ∷ xs) k ≡ Some y) × IsAmong (g y)
      at (inl h) among = (0, x, refl, h)
      at (inr h) among = let rest = among h in (suc rest.0, rest.1, rest.2, rest.3)

  contains_it : (vs : List ValueId) → IsAmong vs → Contains vs v
  contains_it vs e = let there = stands_somewhere vs v e in contained vs there.0 v there.1

  module _ (f : Function) where
    abbrev pub IsDefined : Type 0
    IsDefined = (n : ℕ) × (k : ℕ) × IsDefinedAt f v n k

    in_block : (n : ℕ) (b : Block) → slice_get f.blocks n ≡ Some b → IsAmong (defined_in b) → IsDefined
    in_block n b is_block e = at (any_cases (is_value v) (map value_of b.args) (flat_map results_of (insts_of b)) e)
      where
        at : IsAmong (map value_of b.args) ⊎ IsAmong (flat_map results_of (insts_of b)) → IsDefined
        at (inl h) =
            let there = stands_somewhere (map value_of b.args) v h in
            let a = mapped_from value_of (slice_get b.args there.0) v (sym (slice_get-map value_of b.args there.0) ∙ there.1) in
            (n, 0, argument n b a.0 is_block (contained b.args there.0 a.0 a.1) a.2)
        at (inr h) =
            let i = in_piece results_of (insts_of b) h in
            (n, i.0, result n i.0 i.1 (record { within = b; is_block = is_block; is_inst = i.2 }) (contains_it i.1.results i.3))

    -- each value of the function is defined at a point
    pub defined_somewhere : AreCountedFrom 0 (values_of f.blocks) → v.0 < length (values_of f.blocks) → IsDefined
    defined_somewhere counted lt =
        let b = in_piece defined_in f.blocks (any_counted 0 (values_of f.blocks) v counted (omega arith) (omega arith)) in
        in_block b.0 b.1 b.2 b.3
