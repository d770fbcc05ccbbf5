-- The operands of a row: those that were written so far, and what may follow them.
use Rattle.std.proofs.Common.{◌≡◌, ℕ, ◌+◌, ◌≤◌, List, [], ◌∷◌, ◌++◌, length, map, None, Bool, true, false, if◌then◌else◌, ◌&&◌, ◌||◌, ◌==◌}
use Rattle.std.proofs.Common.{not, refl, sym, subst, ◌∙◌, arith, append_assoc, append-nil, length-append, ap, true≢false}
use Rattle.std.specs.List.{list_all}
use Rattle.std.proofs.lemmas.Bool.{eqb-true}
use Rattle.std.proofs.lemmas.List.{map-append}
use Rattle.instruction_table.specs.Forms.{may_lack_operand}
use Rattle.instruction_table.specs.declared.forms.Part.{Part}
use Rattle.instruction_table.specs.declared.forms.Part.TheVariants as part
use Rattle.instruction_table.specs.declared.op.Op.{Op}
use Rattle.sil_ast.specs.declared.operands.Operand.{Operand}
use Rattle.sil_grammar_tables.specs.Rows.{symbols_of}
use Rattle.sil_grammar_tables.specs.Rows as rows
use Rattle.sil_grammar_tables.specs.declared.grammar.Nonterminal.TheVariants as n
use Rattle.sil_rules.specs.declared.limit_word.LimitWord.TheVariants as limit
use Rattle.sil_grammar_tree.specs.declared.written_tree.written_declarations.WrittenToken.{WrittenToken}
use Rattle.sil_grammar_tree.specs.declared.written_tree.written_instructions.WrittenInst.{WrittenInst}
use Rattle.sil_grammar_tree.specs.declared.written_tree.written_instructions.WrittenOperand.{WrittenOperand}
use Rattle.sil_grammar_tree.specs.WrittenTree.Places.{operand_place}
use Rattle.sil_grammar_values.specs.Opened.{PartValue}
use Rattle.sil_grammar_values.specs.inner.PartFaults.{fault_of_part}
use Rattle.sil_grammar_values.specs.inner.Parts.{part}
use Rattle.sil_grammar_values.specs.inner.RowMeaning.{bare_operand, typed_by, with_part}
use Rattle.sil_grammar_values.specs.Values.{operands_of, token_of, tokens_of}
use Rattle.sil_grammar_names.specs.NameResolution.Resolved.{Scope, resolved_operand}
use Rattle.numbered_form.specs.Lists.{Each, is_empty}
use Rattle.numbered_form.proofs.Lists.{empty_is}
use Rattle.numbered_form.specs.inner.Parts.{are_of_parts, has_operands, is_bare, is_typed}
use Rattle.numbered_form.specs.inner.Types.{HasOperandType}
use Rattle.sil_grammar.proofs.NumberedReadingLaws.ListsAndFaults.{Each-append, Each-weaker, all_each, both, either_first, implied, not_passed-map}
use Rattle.sil_grammar.proofs.NumberedReadingLaws.FaultlessParts.{AreEnumOperands, AreGoodFrom, IsGoodOperand, IsGoodPart}
use Rattle.sil_grammar.proofs.NumberedReadingLaws.RowRules.{may_stand, none_asked, operand_parts}

pub operands_typed : (os : List Operand) → Each IsGoodOperand os → list_all is_typed os ≡ true
operands_typed os g = all_each is_typed os (Each-weaker IsGoodOperand (λ o. is_typed o ≡ true) (λ o h. h.typed) os g)

pub operands_have_types : (os : List Operand) → Each IsGoodOperand os → Each HasOperandType os
operands_have_types os g = Each-weaker IsGoodOperand HasOperandType (λ o h. h.ty) os g

bare_types : (s : Scope) (tokens : List WrittenToken) → Each HasOperandType (map (resolved_operand s) (map bare_operand tokens))
bare_types s [] = tt
bare_types s (token ∷ tokens) = (tt, bare_types s tokens)

bare_all : (s : Scope) (tokens : List WrittenToken) → list_all is_bare (map (resolved_operand s) (map bare_operand tokens)) ≡ true
bare_all s [] = refl
bare_all s (token ∷ tokens) = bare_all s tokens

-- the operands may follow in a row, where those of its parts that are left pass the rest
abbrev pub may_follow : Op → (List Operand → Bool) → List Operand → Bool
may_follow o rest os = rest os || (may_lack_operand o && is_empty os)

-- the first operands of a row, of which so many parts with operands are left
pub record AreOperandsOf (o : Op) (rest : List Operand → Bool) (left : ℕ) (os : List WrittenOperand) : Type 0 where
  pub whole : (s : Scope) (more : List Operand) → may_follow o rest more ≡ true → has_operands o (map (resolved_operand s) os ++ more) ≡ true
  pub types : (s : Scope) → Each HasOperandType (map (resolved_operand s) os)
  pub few : length os + left ≤ 64

abbrev pub AreOperandsBefore : Op → List Part → List WrittenOperand → Type 0
AreOperandsBefore o ps os = AreOperandsOf o (λ more. are_of_parts ps more) (operand_parts ps) os

resolved_behind : (s : Scope) (os new : List WrittenOperand) (more : List Operand)
    → map (resolved_operand s) (os ++ new) ++ more ≡ map (resolved_operand s) os ++ (map (resolved_operand s) new ++ more)
resolved_behind s os new more = ap (λ all. all ++ more) (map-append (resolved_operand s) os new) ∙ append_assoc (map (resolved_operand s) os) (map (resolved_operand s) new) more

-- some operands more
more_operands : (o : Op) (rest others : List Operand → Bool) (left left_then : ℕ) (os new : List WrittenOperand) → AreOperandsOf o rest left os
    → ((s : Scope) (more : List Operand) → may_follow o others more ≡ true → may_follow o rest (map (resolved_operand s) new ++ more) ≡ true)
    → ((s : Scope) → Each HasOperandType (map (resolved_operand s) new)) → length (os ++ new) + left_then ≤ 64 → AreOperandsOf o others left_then (os ++ new)
more_operands o rest others left left_then os new g follows types few = record {
  whole = λ s more e. subst (λ all. has_operands o all ≡ true) (sym (resolved_behind s os new more)) (g.whole s (map (resolved_operand s) new ++ more) (follows s more e));
  types = λ s. subst (Each HasOperandType) (sym (map-append (resolved_operand s) os new))
      (Each-append HasOperandType (map (resolved_operand s) os) (map (resolved_operand s) new) (g.types s) (types s));
  few = few;
}

-- what may follow, told by tests

-- no operand may be left out
all_there : (lacks rest empty : Bool) → not lacks ≡ true → (rest || (lacks && empty)) ≡ true → (rest || (lacks && false)) ≡ true
all_there true rest empty l e = absurd (true≢false (sym l))
all_there false rest empty l e = e

-- no part with operands is left
none_follow : (lacks rest empty : Bool) → rest ≡ empty → (rest || (lacks && empty)) ≡ true → empty ≡ true
none_follow lacks true true same e = refl
none_follow true false false same e = e
none_follow false false false same e = e
none_follow lacks true false same e = sym same
none_follow lacks false true same e = refl

left_out : (lacks rest empty : Bool) → lacks ≡ true → empty ≡ true → (rest || (lacks && empty)) ≡ true
left_out lacks true empty l e = refl
left_out lacks false empty l e = both lacks empty l e

rest_follows : (lacks last rest empty : Bool) → (not lacks || last) ≡ true → (last ≡ true → rest ≡ empty) → (rest || (lacks && empty)) ≡ true → rest ≡ true
rest_follows true true rest empty stands same e = same refl ∙ none_follow true rest empty (same refl) e
rest_follows true false rest empty stands same e = absurd (true≢false (sym stands))
rest_follows false last true empty stands same e = refl
rest_follows false last false empty stands same e = e

asks_none : (ps : List Part) (more : List Operand) → (operand_parts ps == 0) ≡ true → are_of_parts ps more ≡ is_empty more
asks_none ps more e = none_asked ps more (eqb-true (operand_parts ps) 0 e)

-- behind a list of arguments stand none
listed : (o : Op) (ps : List Part) (test : Operand → Bool) (os more : List Operand) → (operand_parts ps == 0) ≡ true → list_all test os ≡ true
    → may_follow o (λ more. are_of_parts ps more) more ≡ true → may_follow o (λ more. list_all test more) (os ++ more) ≡ true
listed o ps test os more last all e =
    let no_more : more ≡ [] = empty_is more (none_follow (may_lack_operand o) (are_of_parts ps more) (is_empty more) (asks_none ps more last) e) in
    let same : os ++ more ≡ os = ap (λ behind. os ++ behind) no_more ∙ append-nil os in
    either_first (list_all test (os ++ more)) (may_lack_operand o && is_empty (os ++ more)) (ap (list_all test) same ∙ all)

-- an operand with its type, if it is there

typed_operands : (lacks : Bool) (x : PartValue) → IsGoodPart (if lacks then n.EnumOperand else n.Operand) x → AreEnumOperands (typed_by lacks x)
unfolding IsGoodPart
typed_operands true x g = g
typed_operands false x g = record { good = λ s. (g s, tt); few = omega arith }

left_out_typed : (lacks : Bool) (x : PartValue) → typed_by lacks x ≡ [] → lacks ≡ true
left_out_typed true x e = refl
left_out_typed false x e = absurd (cc)

typed_follow : (o : Op) (ps : List Part) (os : List WrittenOperand) → (os ≡ [] → may_lack_operand o ≡ true) → (not (may_lack_operand o) || operand_parts ps == 0) ≡ true → AreEnumOperands os
    → (s : Scope) (more : List Operand) → may_follow o (λ more. are_of_parts ps more) more ≡ true
    → may_follow o (λ more. are_of_parts (part.Typed ∷ ps) more) (map (resolved_operand s) os ++ more) ≡ true
typed_follow o ps [] lacks stands g s more e =
    let last : (operand_parts ps == 0) ≡ true = implied (may_lack_operand o) (operand_parts ps == 0) (lacks refl) stands in
    left_out (may_lack_operand o) (are_of_parts (part.Typed ∷ ps) more) (is_empty more) (lacks refl)
    (none_follow (may_lack_operand o) (are_of_parts ps more) (is_empty more) (asks_none ps more last) e)
typed_follow o ps (x ∷ []) lacks stands g s more e =
    let rest : are_of_parts ps more ≡ true = rest_follows (may_lack_operand o) (operand_parts ps == 0) (are_of_parts ps more) (is_empty more) stands (asks_none ps more) e in
    either_first (is_typed (resolved_operand s x) && are_of_parts ps more) (may_lack_operand o && false) (both (is_typed (resolved_operand s x)) (are_of_parts ps more) (g.good s).0.typed rest)
typed_follow o ps (x ∷ y ∷ os) lacks stands g s more e = absurd (omega (arith, g.few))

pub operands_kept : (o : Op) (here : Part) (others : List Part) (at : ℕ) (parts : List PartValue) (i : WrittenInst) → may_stand o here others ≡ true → AreGoodFrom at (symbols_of o here) parts
    → fault_of_part o here at parts i ≡ None → AreOperandsBefore o (here ∷ others) i.operands → AreOperandsBefore o others (with_part o here at parts i).operands
unfolding symbols_of rows.operand_of IsGoodPart
operands_kept o part.Typed others at parts i stands good h g =
    let lacks : Bool = may_lack_operand o in
    let new : List WrittenOperand = typed_by lacks (part at parts) in
    let t : AreEnumOperands new = typed_operands lacks (part at parts) good.0 in
    more_operands o (λ more. are_of_parts (part.Typed ∷ others) more) (λ more. are_of_parts others more) (operand_parts (part.Typed ∷ others)) (operand_parts others) i.operands new g
    (typed_follow o others new (left_out_typed lacks (part at parts)) stands t)
    (λ s. operands_have_types (map (resolved_operand s) new) (t.good s))
    (omega (arith, length-append i.operands new, g.few, t.few))
operands_kept o part.Bare others at parts i stands good h g =
    let new : List WrittenOperand = bare_operand (token_of (part at parts)) ∷ [] in
    more_operands o (λ more. are_of_parts (part.Bare ∷ others) more) (λ more. are_of_parts others more) (operand_parts (part.Bare ∷ others)) (operand_parts others) i.operands new g
    (λ s more e. all_there (may_lack_operand o) (are_of_parts others more) (is_empty more) stands e)
    (λ s. (tt, tt))
    (omega (arith, length-append i.operands new, g.few))
operands_kept o part.BareArgs others at parts i stands good h g =
    let tokens : List WrittenToken = tokens_of (part (at + 1) parts) in
    let new : List WrittenOperand = map bare_operand tokens in
    more_operands o (λ more. are_of_parts (part.BareArgs ∷ others) more) (λ more. are_of_parts others more) (operand_parts (part.BareArgs ∷ others)) (operand_parts others) i.operands new g
    (λ s more e. listed o others is_bare (map (resolved_operand s) new) more stands (bare_all s tokens) e)
    (λ s. bare_types s tokens)
    (omega (arith, not_passed-map operand_place limit.Arguments 64 (i.operands ++ new) h, eqb-true (operand_parts others) 0 stands))
operands_kept o part.TypedArgs others at parts i stands good h g =
    let new : List WrittenOperand = operands_of (part (at + 1) parts) in
    more_operands o (λ more. are_of_parts (part.TypedArgs ∷ others) more) (λ more. are_of_parts others more) (operand_parts (part.TypedArgs ∷ others)) (operand_parts others) i.operands new g
    (λ s more e. listed o others is_typed (map (resolved_operand s) new) more stands (operands_typed (map (resolved_operand s) new) (good.1.0 s)) e)
    (λ s. operands_have_types (map (resolved_operand s) new) (good.1.0 s))
    (omega (arith, not_passed-map operand_place limit.Arguments 64 (i.operands ++ new) h, eqb-true (operand_parts others) 0 stands))
operands_kept o _ others at parts i stands good h g = g
