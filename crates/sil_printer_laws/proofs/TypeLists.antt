-- Printed types between two parentheses: tuples, and payloads of one type.
use Rattle.std.proofs.Common.{◌≡◌, ℕ, suc, ◌+◌, ◌≤◌, List, [], ◌∷◌, ◌++◌, length, map, max, Some, None, false, ◌==◌, codes, refl, ap, ◌∙◌, arith, true≢false}
use Rattle.std.proofs.lemmas.List.{append_assoc}
use Rattle.sil_ast.specs.TypeName.{depth_of, largest}
use Rattle.sil_ast.specs.declared.place.Place.{Place}
use Rattle.sil_ast.specs.declared.type_name.TypeName.{TypeName}
use Rattle.sil_ast.specs.declared.type_name.TypeName.TheVariants as ty
use Rattle.sil_printer.specs.CanonicalTypes.{type_text}
use Rattle.sil_printer.specs.Words.{listed, in_parens}
use Rattle.sil_grammar_tables.specs.declared.grammar.Nonterminal.TheVariants as n
use Rattle.sil_grammar_tables.specs.declared.grammar.Production.TheVariants as p
use Rattle.sil_grammar_tables.specs.declared.grammar.Symbol.TheVariants.{Part}
use Rattle.sil_grammar_tables.specs.Grammar.{body, written}
use Rattle.sil_grammar_classes.specs.Spelling.{punctuation_of, punctuation_spelling, signs}
use Rattle.sil_rules.specs.declared.limit_word.LimitWord.TheVariants as limit
use Rattle.sil_grammar_values.specs.inner.Meaning.{meaning}
use Rattle.sil_grammar_values.specs.Opened.{PartType, PartTypes, PartValue}
use Rattle.sil_grammar_values.specs.inner.PartFaults.{part_fault, too_deep_among, tuple_fault}
use Rattle.sil_grammar_values.specs.Types.{between, type_before}
use Rattle.sil_grammar_values.specs.Values.{questions_of, no_types, payload_of, type_of, types_of}
use Rattle.numbered_form.specs.Lists.{Each}
use Rattle.sil_printer_laws.proofs.Commas.{AllItems, MoreItems, list_reads, listed_reads}
use Rattle.sil_printer_laws.proofs.PartLimits.{not_passed, not_too_deep, one_more_level, whole_type}
use Rattle.sil_printer_laws.proofs.Pieces.{Reads as reads, ReadsAs, Stands, behind}
use Rattle.sil_printer_laws.proofs.Tokens.{punctuation_token}
use Rattle.sil_printer_laws.proofs.TypeForms.{IsTypeOf, no_questions_fault}
use Rattle.sil_grammar_tree.proofs.WrittenTree.FaultOrder.{neither}
use Rattle.sil_grammar.proofs.NumberedReadingLaws.TypeLemmas.{two_or_more}

-- the types are these, counted as deep as the deepest
record AreTypes (ts : List TypeName) (list : PartTypes) : Type 0 where
  types : list.types ≡ ts
  depth : list.depth ≡ largest (map depth_of ts)
  counted : length list.firsts ≡ length ts

abbrev IsType : TypeName → PartValue → Type 0
IsType t x = IsTypeOf t (depth_of t) x

abbrev AreTypesOf : List TypeName → PartValue → Type 0
AreTypesOf ts x = AreTypes ts (types_of x)

nothing_there : AreTypes [] no_types
nothing_there = record { types = refl; depth = refl; counted = refl }

one_in_front : (t : TypeName) (ts : List TypeName) (w : PartType) (list : PartTypes) → w.ty ≡ t → w.depth ≡ depth_of t → AreTypes ts list → AreTypes (t ∷ ts) (type_before w list)
one_in_front t ts w list is_type is_depth are = record {
  types = ap (λ first. first ∷ list.types) is_type ∙ ap (λ others. t ∷ others) are.types;
  depth = ap (λ first. max first list.depth) is_depth ∙ ap (λ others. max (depth_of t) others) are.depth;
  counted = ap suc are.counted;
}

more_types : MoreItems (Part n.Type) n.MoreTypes IsType AreTypesOf
unfolding body written part_fault meaning type_of types_of
more_types = record {
  again = p.MoreTypesMore;
  end = p.MoreTypesEnd;
  again_is = (refl, refl, λ parts. refl);
  again_makes = λ t ts comma first others is_first are_others. one_in_front t ts (type_of first) (types_of others) is_first.0 is_first.1 are_others;
  end_is = (refl, refl, λ parts. refl);
  end_makes = nothing_there;
}

all_types : AllItems (Part n.Type) n.MoreTypes n.Types IsType AreTypesOf
unfolding body written part_fault meaning type_of types_of
all_types = record {
  others = more_types;
  some = p.TypesSome;
  none = p.TypesNone;
  some_is = (refl, refl, λ parts. refl);
  some_makes = λ t ts first others is_first are_others. one_in_front t ts (type_of first) (types_of others) is_first.0 is_first.1 are_others;
  none_is = (refl, refl, λ parts. refl);
  none_makes = nothing_there;
}

-- a tuple between its parentheses

tuple_between : (ts : List TypeName) (depth : ℕ) (first last : Place) → (length ts == 1) ≡ false → 1 + depth ≤ 32
    → ((between ts depth first last).ty ≡ ty.Tuple ts) × ((between ts depth first last).depth ≡ 1 + depth)
tuple_between [] depth first last several room = (whole_type depth (ty.Tuple []) room, one_more_level depth room)
tuple_between (t ∷ []) depth first last several room = absurd (true≢false several)
tuple_between (t ∷ u ∷ ts) depth first last several room = (whole_type depth (ty.Tuple (t ∷ u ∷ ts)) room, one_more_level depth room)

parens_value : (ts : List TypeName) (list : PartTypes) (first last : Place) → AreTypes ts list → (length ts == 1) ≡ false → 1 + largest (map depth_of ts) ≤ 32
    → ((between list.types list.depth first last).ty ≡ ty.Tuple ts) × ((between list.types list.depth first last).depth ≡ 1 + largest (map depth_of ts))
parens_value ts list first last are several room =
    let whole = tuple_between ts list.depth first last several (omega (arith, are.depth)) in (
      ap (λ types. (between types list.depth first last).ty) are.types ∙ whole.0,
      ap (λ types. (between types list.depth first last).depth) are.types ∙ whole.1 ∙ ap (λ depth. 1 + depth) are.depth,
    )

no_depth_fault : (ts : List TypeName) (depth : ℕ) (last : Place) → 1 + depth ≤ 32 → too_deep_among ts depth last ≡ None
no_depth_fault [] depth last room = not_too_deep depth last room
no_depth_fault (t ∷ []) depth last room = refl
no_depth_fault (t ∷ u ∷ ts) depth last room = not_too_deep depth last room

no_tuple_fault : (ts : List TypeName) (list : PartTypes) (last : Place) → AreTypes ts list → length ts ≤ 64 → 1 + largest (map depth_of ts) ≤ 32 → tuple_fault list last ≡ None
no_tuple_fault ts list last are few room = neither _ _
    (not_passed limit.Arguments 64 list.firsts (omega (arith, are.counted)))
    (no_depth_fault list.types list.depth last (omega (arith, are.depth)))

-- one type between parentheses is itself

one_between : (t : TypeName) (list : PartTypes) (first last : Place) → AreTypes (t ∷ []) list → (between list.types list.depth first last).ty ≡ t
one_between t list first last are = ap (λ types. (between types list.depth first last).ty) are.types

one_alone : (t : TypeName) (list : PartTypes) (last : Place) → AreTypes (t ∷ []) list → tuple_fault list last ≡ None
one_alone t list last are = neither _ _ (not_passed limit.Arguments 64 list.firsts (omega (arith, are.counted))) (ap (λ types. too_deep_among types list.depth last) are.types)

module _ (text : List ℕ) where
  pub tuple_reads : (ts : List TypeName) → Each (λ t. ReadsAs text (Part n.Type) (IsType t) (type_text t)) ts
      → (length ts == 1) ≡ false → length ts ≤ 64 → 1 + largest (map depth_of ts) ≤ 32
      → ReadsAs text (Part n.Type) (IsTypeOf (ty.Tuple ts) (1 + largest (map depth_of ts))) (in_parens type_text ts)
  unfolding body written part_fault meaning type_of types_of questions_of punctuation_of punctuation_spelling signs
  tuple_reads ts each several few room after ends =
      let r = list_reads text (Part n.Type) n.MoreTypes IsType AreTypesOf type_text n.Types all_types ts each (41 ∷ after) refl in
      rw (append_assoc (listed type_text ts) (codes ")") after) (record {
        value = _;
        stands = parens_value ts (types_of r.value) _ _ r.stands several room;
        reads = reads.rule p.ParenType
            (punctuation_token 40 refl refl (behind r.reads (punctuation_token 41 refl refl (reads.rule p.QuestionsEnd reads.nothing refl reads.nothing))))
            (neither _ _ (no_tuple_fault ts (types_of r.value) _ r.stands few room) (no_questions_fault _)) reads.nothing;
      })

  -- the types of a payload, of which one alone is that type
  parens_payload : (t : TypeName) (ts : List TypeName) (whole : TypeName) → Each (λ t. ReadsAs text (Part n.Type) (IsType t) (type_text t)) (t ∷ ts)
      → ((list : PartTypes) (first last : Place) → AreTypes (t ∷ ts) list → (between list.types list.depth first last).ty ≡ whole)
      → ((list : PartTypes) (last : Place) → AreTypes (t ∷ ts) list → tuple_fault list last ≡ None)
      → (after : List ℕ) → Stands text n.Payload (λ x. payload_of x ≡ Some whole) (in_parens type_text (t ∷ ts) ++ after) after
  unfolding body written part_fault meaning payload_of punctuation_of punctuation_spelling signs
  parens_payload t ts whole each makes faultless after =
      let r = listed_reads text (Part n.Type) n.MoreTypes IsType AreTypesOf type_text more_types t ts each.0 each.1 (41 ∷ after) refl in
      let are = one_in_front t ts (type_of r.first) (types_of r.others) r.is_first.0 r.is_first.1 r.are_others in
      rw (append_assoc (listed type_text (t ∷ ts)) (codes ")") after) (record {
        value = _;
        stands = ap Some (makes (type_before (type_of r.first) (types_of r.others)) _ _ are);
        reads = reads.rule p.PayloadSome
            (punctuation_token 40 refl refl (behind r.reads (punctuation_token 41 refl refl reads.nothing)))
            (faultless (type_before (type_of r.first) (types_of r.others)) _ are) reads.nothing;
      })

  pub single_payload : (t : TypeName) → ReadsAs text (Part n.Type) (IsType t) (type_text t)
      → (after : List ℕ) → Stands text n.Payload (λ x. payload_of x ≡ Some t) (in_parens type_text (t ∷ []) ++ after) after
  single_payload t inside after = parens_payload t [] t (inside, tt) (one_between t) (one_alone t) after

  pub tuple_payload : (t u : TypeName) (ts : List TypeName) → Each (λ t. ReadsAs text (Part n.Type) (IsType t) (type_text t)) (t ∷ u ∷ ts)
      → length (t ∷ u ∷ ts) ≤ 64 → 1 + largest (map depth_of (t ∷ u ∷ ts)) ≤ 32
      → (after : List ℕ) → Stands text n.Payload (λ x. payload_of x ≡ Some (ty.Tuple (t ∷ u ∷ ts))) (in_parens type_text (t ∷ u ∷ ts) ++ after) after
  tuple_payload t u ts each few room after = parens_payload t (u ∷ ts) (ty.Tuple (t ∷ u ∷ ts)) each
      (λ list first last are. (parens_value (t ∷ u ∷ ts) list first last are (two_or_more (length ts)) room).0)
      (λ list last are. no_tuple_fault (t ∷ u ∷ ts) list last are few room) after
