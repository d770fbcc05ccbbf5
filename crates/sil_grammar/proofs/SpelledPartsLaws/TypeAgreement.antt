-- Types that are built up level by level: literals are of their own bits, and the levels that are too deep are those that the replay finds.
use Rattle.std.proofs.Common.{◌≡◌, ℕ, suc, ◌+◌, ◌-◌, ◌<◌, ◌≤◌, List, [], ◌∷◌, Some, None, Bool, true, false, if◌then◌else◌, ◌==◌, nat_lt, subst, ap, ap₂, sym, refl, ◌∙◌, arith, inl, inr}
use Rattle.std.specs.List.{AllByRecursion}
use Rattle.std.proofs.lemmas.Bool.{cases_order}
use Rattle.std.proofs.lemmas.Bool.Decides.{nat_tests}
use Rattle.sil_ast.specs.declared.place.Place.{Place}
use Rattle.sil_ast.specs.declared.type_name.TypeName.{TypeName, out-TypeName, out-roll-TypeName}
use Rattle.sil_ast.specs.declared.type_name.TypeName.TheOpen as level
use Rattle.sil_ast.specs.declared.type_name.TypeName.TheOpen.{TypeName-F}
use Rattle.sil_ast.specs.declared.type_name.TypeName.TheVariants as ty
use Rattle.sil_rules.specs.declared.limit_word.LimitWord.TheVariants as limit
use Rattle.sil_grammar_tree.specs.declared.written_tree.fault.Fault.{Fault}
use Rattle.sil_grammar_tree.specs.declared.written_tree.fault.FaultKind.TheVariants.{Limit}
use Rattle.sil_grammar_tree.specs.WrittenTree.Faults.{earlier, fault, passed}
use Rattle.sil_grammar_values.specs.Opened.{PartType, PartTypes}
use Rattle.sil_grammar_values.specs.inner.PartFaults.{too_deep, too_deep_among, too_many_questions, tuple_fault}
use Rattle.sil_grammar_values.specs.Types.{between, deeper, in_parens, kept, one_deeper, type_before, width_in_range, width_over, with_questions}
use Rattle.sil_grammar_values.specs.Values.{no_types}
use Rattle.sil_grammar.specs.SpelledPartsLaws.Faults.{level_faults, parens_faults, question_faults}
use Rattle.sil_grammar.specs.SpelledPartsLaws.Limits.{bits_over, past, too_deep as too_deep_here}
use Rattle.sil_grammar.proofs.SpelledPartsLaws.FaultLists.{first-append, first-option, first_of}
use Rattle.sil_grammar.proofs.SpelledPartsLaws.ValueKinds.{AreKept, HasBits, IsKept}

-- the bits of literals

by_level : (t : TypeName) (layer : TypeName-F TypeName) → out-TypeName t ≡ layer → width_over layer ≡ bits_over layer → HasBits t
by_level t layer e h = ap width_over e ∙ (h ∙ sym (ap bits_over e))

pub int_bits : (width : ℕ) → width_in_range width ≡ width → HasBits (ty.Int width)
int_bits width h = by_level (ty.Int width) (level.Int width) (ap out-TypeName (sym (ty.rolls-Int width)) ∙ out-roll-TypeName (level.Int width)) h

pub named_bits : (name : List ℕ) → HasBits (ty.Named name)
named_bits name = by_level (ty.Named name) (level.Named name) (ap out-TypeName (sym (ty.rolls-Named name)) ∙ out-roll-TypeName (level.Named name)) refl

pub optional_bits : (t : TypeName) → HasBits (ty.Optional t)
optional_bits t = by_level (ty.Optional t) (level.Optional t) (ap out-TypeName (sym (ty.rolls-Optional t)) ∙ out-roll-TypeName (level.Optional t)) refl

tuple_bits : (ts : List TypeName) → HasBits (ty.Tuple ts)
tuple_bits ts = by_level (ty.Tuple ts) (level.Tuple ts) (ap out-TypeName (sym (ty.rolls-Tuple ts)) ∙ out-roll-TypeName (level.Tuple ts)) refl

pub weak_bits : (t : TypeName) → HasBits (ty.Weak t)
weak_bits t = by_level (ty.Weak t) (level.Weak t) (ap out-TypeName (sym (ty.rolls-Weak t)) ∙ out-roll-TypeName (level.Weak t)) refl

pub unowned_bits : (t : TypeName) → HasBits (ty.Unowned t)
unowned_bits t = by_level (ty.Unowned t) (level.Unowned t) (ap out-TypeName (sym (ty.rolls-Unowned t)) ∙ out-roll-TypeName (level.Unowned t)) refl

-- one level

depth_kept : (depth : ℕ) (past : Bool) → nat_lt 32 depth ≡ past → depth ≤ 33 → (if past then depth else depth + 1) ≤ 33
depth_kept depth true e h = h
depth_kept depth false e h = grind (arith, nat_tests)

kept_bits : (past : Bool) (t : TypeName) → HasBits t → HasBits (if past then ty.Tuple [] else t)
kept_bits true t bits = tuple_bits []
kept_bits false t bits = bits

pub level_kept : (depth : ℕ) (t : TypeName) (first last : Place) → depth ≤ 33 → HasBits t → IsKept (one_deeper depth t first last)
level_kept depth t first last h bits = record { limit = depth_kept depth (nat_lt 32 depth) refl h; bits = kept_bits (nat_lt 32 (deeper depth)) t bits }

pub questions_kept : (t : PartType) (questions : List Place) → IsKept t → IsKept (with_questions t questions)
questions_kept t [] kept = kept
questions_kept t (question ∷ questions) kept =
    questions_kept (one_deeper t.depth (ty.Optional t.ty) t.first question) questions (level_kept t.depth (ty.Optional t.ty) t.first question kept.limit (optional_bits t.ty))

between_kept : (types : List TypeName) (depth : ℕ) (first last : Place) → depth ≤ 33 → AllByRecursion HasBits types → IsKept (between types depth first last)
between_kept [] depth first last h bits = level_kept depth (ty.Tuple []) first last h (tuple_bits [])
between_kept (t ∷ []) depth first last h bits = record { limit = h; bits = bits.0 }
between_kept (t ∷ u ∷ types) depth first last h bits = level_kept depth (ty.Tuple (t ∷ u ∷ types)) first last h (tuple_bits (t ∷ u ∷ types))

pub parens_kept : (first : Place) (list : PartTypes) (last : Place) → AreKept list → IsKept (in_parens first list last)
parens_kept first list last kept = between_kept list.types list.depth first last kept.limit kept.bits

pub kept_before : (t : PartType) (others : PartTypes) → IsKept t → AreKept others → AreKept (type_before t others)
kept_before t others kept more = record { limit = omega (arith, kept.limit, more.limit); bits = (kept.bits, more.bits) }

pub none_kept : AreKept no_types
none_kept = record { limit = omega arith; bits = tt }

-- what is at fault

one_or_none : (test : Bool) (f : Fault) → first_of (if test then f ∷ [] else []) ≡ (if test then Some f else None)
unfolding earlier
one_or_none true f = refl
one_or_none false f = refl

pub level_found : (depth : ℕ) (last : Place) → first_of (too_deep_here depth last) ≡ too_deep depth last
level_found depth last = one_or_none (depth == 32) (fault (Limit limit.Depth) last)

among_found : (types : List TypeName) (depth : ℕ) (last : Place) → first_of (level_faults types depth last) ≡ too_deep_among types depth last
among_found [] depth last = level_found depth last
among_found (t ∷ []) depth last = refl
among_found (t ∷ u ∷ types) depth last = level_found depth last

pub parens_found : (list : PartTypes) (last : Place) → first_of (parens_faults list last) ≡ tuple_fault list last
parens_found list last =
    first-append (past limit.Arguments 64 list.firsts) (level_faults list.types list.depth last)
    ∙ ap₂ earlier (first-option (passed limit.Arguments 64 list.firsts)) (among_found list.types list.depth last)

-- past the limit nothing more is at fault
over : (depth : ℕ) → 32 < depth → (nat_lt 32 depth ≡ true) × ((depth == 32) ≡ false)
over depth h = (grind (arith, nat_tests), grind (arith, nat_tests))

below : (depth : ℕ) → depth < 32 → (nat_lt 32 depth ≡ false) × ((depth == 32) ≡ false)
below depth h = (grind (arith, nat_tests), grind (arith, nat_tests))

none_over : (depth : ℕ) (questions : List Place) → 32 < depth → first_of (question_faults depth questions) ≡ None
none_over depth [] h = refl
none_over depth (question ∷ questions) h = let o = over depth h in rw (o.1, o.0) (none_over depth questions h)

none_by : (over : Bool) (n : ℕ) → None ≡ (if over then None else passed limit.Depth n [])
none_by true n = refl
none_by false n = refl

over_limit : (depth : ℕ) (questions : List Place) → 32 < depth → too_many_questions depth questions ≡ None
over_limit depth questions h = rw (over depth h).0 refl

at_thirty_two : (question : Place) (questions : List Place) → first_of (question_faults 32 (question ∷ questions)) ≡ too_many_questions 32 (question ∷ questions)
unfolding earlier
at_thirty_two question questions = ap (earlier (Some (fault (Limit limit.Depth) question))) (none_over 33 questions (omega arith))

at_limit : (depth : ℕ) (question : Place) (questions : List Place) → depth ≡ 32
    → first_of (question_faults depth (question ∷ questions)) ≡ too_many_questions depth (question ∷ questions)
at_limit depth question questions e = subst (λ (n : ℕ). first_of (question_faults n (question ∷ questions)) ≡ too_many_questions n (question ∷ questions)) (sym e) (at_thirty_two question questions)

under : (depth : ℕ) (question : Place) (questions : List Place) → depth < 32 → first_of (question_faults (depth + 1) questions) ≡ too_many_questions (depth + 1) questions
    → first_of (question_faults depth (question ∷ questions)) ≡ too_many_questions depth (question ∷ questions)
under depth question questions h more =
    let u = below depth h in
    let next : nat_lt 32 (depth + 1) ≡ false = grind (arith, nat_tests) in
    let one : 32 - depth ≡ suc (32 - (depth + 1)) = omega (arith, h) in
    let here : passed limit.Depth (32 - depth) (question ∷ questions) ≡ passed limit.Depth (32 - (depth + 1)) questions =
    ap (λ (n : ℕ). passed limit.Depth n (question ∷ questions)) one in
    let there : too_many_questions (depth + 1) questions ≡ passed limit.Depth (32 - (depth + 1)) questions =
    ap (λ (over : Bool). if over then None else passed limit.Depth (32 - (depth + 1)) questions) next in
    rw (u.1, u.0) (more ∙ there ∙ sym here)

none_asked : (depth : ℕ) → None ≡ too_many_questions depth []
none_asked depth = none_by (nat_lt 32 depth) (32 - depth)

pub questions_found : (depth : ℕ) (questions : List Place) → first_of (question_faults depth questions) ≡ too_many_questions depth questions
questions_found depth [] = none_asked depth
questions_found depth (question ∷ questions) = elim (cases_order depth 32) [
  | inl same ↦ at_limit depth question questions same
  | inr other ↦ elim other [
    | inl less ↦ under depth question questions less (questions_found (depth + 1) questions)
    | inr more ↦ none_over depth (question ∷ questions) more ∙ sym (over_limit depth (question ∷ questions) more)
  ]
]
