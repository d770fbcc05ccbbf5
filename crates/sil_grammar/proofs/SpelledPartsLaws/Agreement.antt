-- Where the parts of a production are of its symbols' kinds, what it stands for is what the replay makes of them, and what is
-- at fault in it is what the replay finds.
use Rattle.std.proofs.Common.{◌≡◌, ℕ, List, [], ◌∷◌, Option, Some, None, Bool, true, false, if◌then◌else◌, ap, ap₂, refl, sym, subst, ◌∙◌, arith}
use Rattle.instruction_table.specs.Forms.{parts_of}
use Rattle.instruction_table.specs.declared.op.Op.{Op}
use Rattle.sil_ast.specs.declared.function.ArgKind.{ArgKind}
use Rattle.sil_ast.specs.declared.place.Place.{Place}
use Rattle.sil_ast.specs.declared.type_name.TypeName.TheVariants as ty
use Rattle.sil_grammar_tables.specs.declared.grammar.Nonterminal.TheVariants as n
use Rattle.sil_grammar_tables.specs.declared.grammar.Production.{Production}
use Rattle.sil_grammar_tables.specs.declared.grammar.Production.TheVariants as p
use Rattle.sil_grammar_tables.specs.declared.grammar.Symbol.TheVariants.{Part}
use Rattle.sil_grammar_tables.specs.Grammar.{body, written}
use Rattle.sil_grammar_tables.specs.Rows.{ends_block, parts_row, row_body, row_part}
use Rattle.sil_grammar_values.specs.inner.Meaning.{meaning}
use Rattle.sil_grammar_values.specs.Opened.{PartType, PartValue}
use Rattle.sil_grammar_values.specs.inner.PartFaults.{part_fault}
use Rattle.sil_grammar_values.specs.inner.RowMeaning.{row, with_parts}
use Rattle.sil_grammar_values.specs.Types.{in_parens, named_type, one_token, tailed, type_before, width_in_range}
use Rattle.sil_grammar_values.specs.Values.{args_of, bare_inst, blocks_of, cases_of, fields_of, givens_of, items_of, operands_of}
use Rattle.sil_grammar_values.specs.Values.{params_of, questions_of, token_of, tokens_of, type_of, types_of}
use Rattle.sil_grammar_values.specs.Variants as v
use Rattle.sil_grammar_values.proofs.Unfolded.{value_parts}
use Rattle.sil_grammar_tree.specs.declared.written_tree.fault.Fault.{Fault}
use Rattle.sil_grammar_tree.specs.WrittenTree.Faults.{earlier}
use Rattle.sil_grammar_tree.specs.declared.written_tree.written_declarations.WrittenCase.{WrittenCase}
use Rattle.sil_grammar_tree.specs.declared.written_tree.written_declarations.WrittenField.{WrittenField}
use Rattle.sil_grammar_tree.specs.declared.written_tree.written_declarations.WrittenToken.{WrittenToken}
use Rattle.sil_grammar_tree.specs.declared.written_tree.written_instructions.WrittenInst.{WrittenInst}
use Rattle.sil_grammar_tree.specs.declared.written_tree.written_module.WrittenEntry.{WrittenEntry}
use Rattle.sil_grammar.specs.SpelledPartsLaws.Faults.{AreFaultsOf, parens_faults, question_faults}
use Rattle.sil_grammar.specs.SpelledPartsLaws.Means.{Means}
use Rattle.sil_grammar.proofs.SpelledPartsLaws.FaultLists.{first-append, first-four, first-option, first-two, first_of}
use Rattle.sil_grammar.proofs.SpelledPartsLaws.RowAgreement.{RowAgrees, all_fit, rows}
use Rattle.sil_grammar.proofs.SpelledPartsLaws.RowPlaces.{faults_from, row_faults_moved, row_from, row_moved}
use Rattle.sil_grammar.proofs.SpelledPartsLaws.TypeAgreement.{int_bits, kept_before, level_found, level_kept, named_bits, none_kept, optional_bits}
use Rattle.sil_grammar.proofs.SpelledPartsLaws.TypeAgreement.{parens_found, parens_kept, questions_found, questions_kept, unowned_bits, weak_bits}
use Rattle.sil_grammar.proofs.SpelledPartsLaws.ValueKinds.{AreOf, Contents, IsKept, IsOf, KeptType, contents_of, kind_of_part, optional, star, values_of}

-- what the production stands for
pub record MeansSo (q : Production) (parts : List PartValue) : Type 0 where
  -- what the replay makes is of the kind of what the production writes
  pub kind : IsOf (Part (written q)) (meaning q parts)
  pub stands : Means q parts (meaning q parts)
  pub back : (value : PartValue) → Means q parts value → value ≡ meaning q parts

-- what is at fault in it by itself
pub record FaultsSo (q : Production) (parts : List PartValue) : Type 0 where
  pub own : List Fault
  pub listed : AreFaultsOf q parts own
  pub only : (faults : List Fault) → AreFaultsOf q parts faults → faults ≡ own
  pub first : first_of own ≡ part_fault q parts

pub record Agrees (q : Production) (parts : List PartValue) : Type 0 where
  pub means : MeansSo q parts
  pub faults : FaultsSo q parts

name_kept : (word : WrittenToken) → IsKept (named_type word)
name_kept word = record { limit = omega arith; bits = named_bits word.text }

width_kept : (width : ℕ) (place : Place) → width_in_range width ≡ width → IsKept (one_token (ty.Int width) place)
width_kept width place h = record { limit = omega arith; bits = int_bits width h }

other_first : {t : PartType} (first : Place) → IsKept t → IsKept (record t { first = first })
other_first first kept = record { limit = kept.limit; bits = kept.bits }

-- productions with a part that may stand for nothing

builtin_base : (word : WrittenToken) (t : Option KeptType) → MeansSo p.BuiltinBase (v.Token word ∷ optional (λ x. v.Type x.0) t ∷ [])
unfolding body written meaning part_fault tailed Means kind_of_part value_parts
builtin_base word (Some t) = record { kind = ((_, other_first word.place t.1), refl); stands = refl; back = λ value m. m }
builtin_base word None = record { kind = ((_, name_kept word), refl); stands = refl; back = λ value m. m }

optional_base : (word : WrittenToken) (t : Option KeptType) → MeansSo p.OptionalBase (v.Token word ∷ optional (λ x. v.Type x.0) t ∷ [])
unfolding body written meaning part_fault tailed Means kind_of_part value_parts
optional_base word (Some t) = record { kind = ((_, other_first word.place t.1), refl); stands = refl; back = λ value m. m }
optional_base word None = record { kind = ((_, name_kept word), refl); stands = refl; back = λ value m. m }

final_class : (final word name : WrittenToken) (superclass : Option WrittenToken) (left : WrittenToken) (fields : List WrittenField) (right : WrittenToken)
    → MeansSo p.FinalClass (v.Token final ∷ v.Token word ∷ v.Token name ∷ optional (λ x. v.Token x) superclass ∷ v.Token left ∷ v.Fields fields ∷ v.Token right ∷ [])
unfolding body written meaning part_fault tailed Means kind_of_part value_parts
final_class final word name (Some s) left fields right = record { kind = (_, refl); stands = refl; back = λ value m. m }
final_class final word name None left fields right = record { kind = (_, refl); stands = refl; back = λ value m. m }

plain_class : (word name : WrittenToken) (superclass : Option WrittenToken) (left : WrittenToken) (fields : List WrittenField) (right : WrittenToken)
    → MeansSo p.PlainClass (v.Token word ∷ v.Token name ∷ optional (λ x. v.Token x) superclass ∷ v.Token left ∷ v.Fields fields ∷ v.Token right ∷ [])
unfolding body written meaning part_fault tailed Means kind_of_part value_parts
plain_class word name (Some s) left fields right = record { kind = (_, refl); stands = refl; back = λ value m. m }
plain_class word name None left fields right = record { kind = (_, refl); stands = refl; back = λ value m. m }

vtable_item : (word name left : WrittenToken) (entry : Option WrittenEntry) (right : WrittenToken)
    → MeansSo p.VtableItem (v.Token word ∷ v.Token name ∷ v.Token left ∷ optional (λ x. v.Entry x) entry ∷ v.Token right ∷ [])
unfolding body written meaning part_fault tailed Means kind_of_part value_parts
vtable_item word name left (Some e) right = record { kind = (_, refl); stands = refl; back = λ value m. m }
vtable_item word name left None right = record { kind = (_, refl); stands = refl; back = λ value m. m }

members_more : (member : Option WrittenField) (others : List WrittenField) → MeansSo p.MembersMore (optional (λ x. v.Field x) member ∷ v.Fields others ∷ [])
unfolding body written meaning part_fault tailed Means kind_of_part value_parts
members_more (Some f) others = record { kind = (_, refl); stands = refl; back = λ value m. m }
members_more None others = record { kind = (_, refl); stands = refl; back = λ value m. m }

cases_more : (word name : WrittenToken) (payload : Option KeptType) (others : List WrittenCase)
    → MeansSo p.CasesMore (v.Token word ∷ v.Token name ∷ optional (λ x. v.Type x.0) payload ∷ v.Cases others ∷ [])
unfolding body written meaning part_fault tailed Means kind_of_part value_parts
cases_more word name (Some t) others = record { kind = (_, refl); stands = refl; back = λ value m. m }
cases_more word name None others = record { kind = (_, refl); stands = refl; back = λ value m. m }

block_arg : (name colon : WrittenToken) (k : ArgKind) (dollar : WrittenToken) (starred_type : Bool) (t : KeptType)
    → MeansSo p.WholeBlockArg (v.Token name ∷ v.Token colon ∷ v.Ownership k ∷ v.Token dollar ∷ star starred_type ∷ v.Type t.0 ∷ [])
unfolding body written meaning part_fault tailed Means kind_of_part value_parts
block_arg name colon k dollar true t = record { kind = (_, refl); stands = refl; back = λ value m. m }
block_arg name colon k dollar false t = record { kind = (_, refl); stands = refl; back = λ value m. m }

operand : (name colon dollar : WrittenToken) (starred_type : Bool) (t : KeptType)
    → MeansSo p.WholeOperand (v.Token name ∷ v.Token colon ∷ v.Token dollar ∷ star starred_type ∷ v.Type t.0 ∷ [])
unfolding body written meaning part_fault tailed Means kind_of_part value_parts
operand name colon dollar true t = record { kind = (_, refl); stands = refl; back = λ value m. m }
operand name colon dollar false t = record { kind = (_, refl); stands = refl; back = λ value m. m }

-- the row of an instruction

row_kind : (ends : Bool) (inst : WrittenInst) → IsOf (Part (if ends then n.Terminator else n.Row)) (v.Inst inst)
unfolding kind_of_part
row_kind true inst = (inst, refl)
row_kind false inst = (inst, refl)

-- the walk over the parts of a row
row_walk : (o : Op) (mnemonic : WrittenToken) (xs : Contents (parts_row o (parts_of o))) → RowAgrees o (parts_of o) (values_of (parts_row o (parts_of o)) xs) (bare_inst o mnemonic.place)
row_walk o mnemonic xs = rows o (parts_of o) xs (bare_inst o mnemonic.place) (all_fit o) tt

row_means : (o : Op) (xs : Contents (row_body o)) → MeansSo (p.Row o) (values_of (row_body o) xs)
unfolding body written meaning Means kind_of_part row_body row_part token_of
row_means o xs =
    let tail : List PartValue = values_of (parts_row o (parts_of o)) xs.1 in
    let parts : List PartValue = v.Token xs.0 ∷ tail in
    let begin : WrittenInst = bare_inst o xs.0.place in
    let r = row_walk o xs.0 xs.1 in
    let moved : with_parts o (parts_of o) 1 parts begin ≡ row_from o (parts_of o) tail begin = row_moved o (parts_of o) 1 parts begin in
    record {
      kind = row_kind (ends_block o) (row o parts);
      stands = (row_from o (parts_of o) tail begin, faults_from o (parts_of o) tail begin, r.stands, ap (λ (inst : WrittenInst). v.Inst inst) moved);
      back = λ value m. m.3 ∙ ap (λ (inst : WrittenInst). v.Inst inst) ((r.back m.0 m.1 m.2).0 ∙ sym moved);
    }

row_faults_are : (o : Op) (xs : Contents (row_body o)) → FaultsSo (p.Row o) (values_of (row_body o) xs)
unfolding body part_fault AreFaultsOf kind_of_part row_body token_of earlier
row_faults_are o xs =
    let tail : List PartValue = values_of (parts_row o (parts_of o)) xs.1 in
    let parts : List PartValue = v.Token xs.0 ∷ tail in
    let begin : WrittenInst = bare_inst o xs.0.place in
    let r = row_walk o xs.0 xs.1 in
    record {
      own = faults_from o (parts_of o) tail begin;
      listed = (row_from o (parts_of o) tail begin, r.stands);
      only = λ faults m. (r.back m.0 faults m.1).1;
      first = sym (row_faults_moved o (parts_of o) 1 parts begin None);
    }

means_by : (q : Production) (xs : Contents (body q)) → MeansSo q (values_of (body q) xs)
unfolding body written meaning part_fault tailed Means kind_of_part value_parts
means_by (p.Row o) xs = row_means o xs
means_by p.PayloadSome xs =
    record {
      kind = (Some (_, parens_kept xs.0.place (type_before xs.1.0.0 xs.1.1.0.0) xs.1.1.1.0.place (kept_before xs.1.0.0 xs.1.1.0.0 xs.1.0.1 xs.1.1.0.1)), refl);
      stands = refl;
      back = λ value m. m;
    }
means_by p.ParenType xs =
    record {
      kind = ((_, questions_kept (in_parens xs.0.place xs.1.0.0 xs.1.1.0.place) xs.1.1.1.0 (parens_kept xs.0.place xs.1.0.0 xs.1.1.0.place xs.1.0.1)), refl);
      stands = refl;
      back = λ value m. m;
    }
means_by p.BaseOpen xs = record { kind = ((_, questions_kept xs.0.0 xs.1.0 xs.0.1), refl); stands = refl; back = λ value m. m }
means_by p.WeakOpen xs = record {
  kind = ((_, level_kept xs.1.0.0.depth (ty.Weak xs.1.0.0.ty) xs.0.place xs.1.0.0.last xs.1.0.1.limit (weak_bits xs.1.0.0.ty)), refl);
  stands = refl;
  back = λ value m. m;
}
means_by p.UnownedOpen xs = record {
  kind = ((_, level_kept xs.1.0.0.depth (ty.Unowned xs.1.0.0.ty) xs.0.place xs.1.0.0.last xs.1.0.1.limit (unowned_bits xs.1.0.0.ty)), refl);
  stands = refl;
  back = λ value m. m;
}
means_by p.OptionalOf xs =
    record { kind = (Some (_, level_kept xs.1.0.0.depth (ty.Optional xs.1.0.0.ty) xs.0.place xs.1.1.0.place xs.1.0.1.limit (optional_bits xs.1.0.0.ty)), refl); stands = refl; back = λ value m. m }
means_by p.BareType xs = record { kind = (xs.0, refl); stands = refl; back = λ value m. m }
means_by p.NamedBase xs = record { kind = ((_, name_kept xs.0), refl); stands = refl; back = λ value m. m }
means_by p.Width1 xs = record { kind = ((_, width_kept 1 xs.0.place refl), refl); stands = refl; back = λ value m. m }
means_by p.Width8 xs = record { kind = ((_, width_kept 8 xs.0.place refl), refl); stands = refl; back = λ value m. m }
means_by p.Width16 xs = record { kind = ((_, width_kept 16 xs.0.place refl), refl); stands = refl; back = λ value m. m }
means_by p.Width32 xs = record { kind = ((_, width_kept 32 xs.0.place refl), refl); stands = refl; back = λ value m. m }
means_by p.Width64 xs = record { kind = ((_, width_kept 64 xs.0.place refl), refl); stands = refl; back = λ value m. m }
means_by p.BuiltinInt xs = record { kind = (Some xs.1.0, refl); stands = refl; back = λ value m. m }
means_by p.TypesSome xs = record { kind = ((_, kept_before xs.0.0 xs.1.0.0 xs.0.1 xs.1.0.1), refl); stands = refl; back = λ value m. m }
means_by p.MoreTypesMore xs = record { kind = ((_, kept_before xs.1.0.0 xs.1.1.0.0 xs.1.0.1 xs.1.1.0.1), refl); stands = refl; back = λ value m. m }
means_by p.TypesNone xs = record { kind = ((_, none_kept), refl); stands = refl; back = λ value m. m }
means_by p.MoreTypesEnd xs = record { kind = ((_, none_kept), refl); stands = refl; back = λ value m. m }
means_by p.BuiltinBase xs = builtin_base xs.0 xs.1.0
means_by p.OptionalBase xs = optional_base xs.0 xs.1.0
means_by p.FinalClass xs = final_class xs.0 xs.1.0 xs.1.1.0 xs.1.1.1.0 xs.1.1.1.1.0 xs.1.1.1.1.1.0 xs.1.1.1.1.1.1.0
means_by p.PlainClass xs = plain_class xs.0 xs.1.0 xs.1.1.0 xs.1.1.1.0 xs.1.1.1.1.0 xs.1.1.1.1.1.0
means_by p.VtableItem xs = vtable_item xs.0 xs.1.0 xs.1.1.0 xs.1.1.1.0 xs.1.1.1.1.0
means_by p.MembersMore xs = members_more xs.0 xs.1.0
means_by p.CasesMore xs = cases_more xs.0 xs.1.0 xs.1.1.0 xs.1.1.1.0
means_by p.WholeBlockArg xs = block_arg xs.0 xs.1.0 xs.1.1.0 xs.1.1.1.0 xs.1.1.1.1.0 xs.1.1.1.1.1.0
means_by p.WholeOperand xs = operand xs.0 xs.1.0 xs.1.1.0 xs.1.1.1.0 xs.1.1.1.1.0
means_by p.SuperclassNone xs = record { kind = (None, refl); stands = refl; back = λ value m. m }
means_by p.EntryNone xs = record { kind = (None, refl); stands = refl; back = λ value m. m }
means_by p.DeinitMember xs = record { kind = (None, refl); stands = refl; back = λ value m. m }
means_by p.InitMember xs = record { kind = (None, refl); stands = refl; back = λ value m. m }
means_by p.PayloadNone xs = record { kind = (None, refl); stands = refl; back = λ value m. m }
means_by p.BuiltinName xs = record { kind = (None, refl); stands = refl; back = λ value m. m }
means_by p.OptionalName xs = record { kind = (None, refl); stands = refl; back = λ value m. m }
means_by p.SuperclassSome xs = record { kind = (Some _, refl); stands = refl; back = λ value m. m }
means_by p.EntrySome xs = record { kind = (Some _, refl); stands = refl; back = λ value m. m }
means_by p.StoredMember xs = record { kind = (Some _, refl); stands = refl; back = λ value m. m }
means_by p.FinalMember xs = record { kind = (Some _, refl); stands = refl; back = λ value m. m }
means_by p.PlainMember xs = record { kind = (Some _, refl); stands = refl; back = λ value m. m }
means_by p.AccessorsSome xs = record { kind = (tt, refl); stands = refl; back = λ value m. m }
means_by p.AccessorsNone xs = record { kind = (tt, refl); stands = refl; back = λ value m. m }
means_by p.SetterSome xs = record { kind = (tt, refl); stands = refl; back = λ value m. m }
means_by p.SetterNone xs = record { kind = (tt, refl); stands = refl; back = λ value m. m }
means_by p.SuffixSome xs = record { kind = (tt, refl); stands = refl; back = λ value m. m }
means_by p.SuffixNone xs = record { kind = (tt, refl); stands = refl; back = λ value m. m }
means_by p.StarSome xs = record { kind = (true, refl); stands = refl; back = λ value m. m }
means_by p.StarNone xs = record { kind = (false, refl); stands = refl; back = λ value m. m }
means_by q xs = record { kind = (_, refl); stands = refl; back = λ value m. m }

faults_by : (q : Production) (xs : Contents (body q)) → FaultsSo q (values_of (body q) xs)
unfolding body part_fault AreFaultsOf kind_of_part token_of items_of fields_of cases_of type_of types_of questions_of tokens_of params_of givens_of blocks_of args_of operands_of
faults_by (p.Row o) xs = row_faults_are o xs
faults_by p.WholeModule xs = record { own = _; listed = refl; only = λ faults m. m; first = first-two _ _ }
faults_by p.FinalClass xs = record { own = _; listed = refl; only = λ faults m. m; first = first-option _ }
faults_by p.PlainClass xs = record { own = _; listed = refl; only = λ faults m. m; first = first-option _ }
faults_by p.StructItem xs = record { own = _; listed = refl; only = λ faults m. m; first = first-option _ }
faults_by p.EnumItem xs = record { own = _; listed = refl; only = λ faults m. m; first = first-option _ }
faults_by p.FunctionItem xs = record { own = _; listed = refl; only = λ faults m. m; first = first-four _ _ _ _ }
faults_by p.WholeFunctionType xs = record { own = _; listed = refl; only = λ faults m. m; first = first-two _ _ }
faults_by p.WholeBlock xs = record { own = _; listed = refl; only = λ faults m. m; first = first-option _ }
faults_by p.InstNames xs = record { own = _; listed = refl; only = λ faults m. m; first = first-option _ }
faults_by p.WholeEdge xs = record { own = _; listed = refl; only = λ faults m. m; first = first-option _ }
faults_by p.DebugNumber xs = record { own = _; listed = refl; only = λ faults m. m; first = first-option _ }
faults_by p.PayloadSome xs = record { own = _; listed = refl; only = λ faults m. m; first = parens_found (type_before xs.1.0.0 xs.1.1.0.0) xs.1.1.1.0.place }
faults_by p.ParenType xs =
    let questions : List Place = xs.1.1.1.0 in
    let depth : ℕ = (in_parens xs.0.place xs.1.0.0 xs.1.1.0.place).depth in
    record {
      own = _;
      listed = refl;
      only = λ faults m. m;
      first = first-append (parens_faults xs.1.0.0 xs.1.1.0.place) (question_faults depth questions) ∙ ap₂ earlier (parens_found xs.1.0.0 xs.1.1.0.place) (questions_found depth questions);
    }
faults_by p.BaseOpen xs = record { own = _; listed = refl; only = λ faults m. m; first = questions_found xs.0.0.depth xs.1.0 }
faults_by p.WeakOpen xs = record { own = _; listed = refl; only = λ faults m. m; first = level_found xs.1.0.0.depth xs.1.0.0.last }
faults_by p.UnownedOpen xs = record { own = _; listed = refl; only = λ faults m. m; first = level_found xs.1.0.0.depth xs.1.0.0.last }
faults_by p.OptionalOf xs = record { own = _; listed = refl; only = λ faults m. m; first = level_found xs.1.0.0.depth xs.1.1.0.place }
faults_by q xs = record { own = []; listed = refl; only = λ faults m. m; first = refl }

pub agrees : (q : Production) (parts : List PartValue) → AreOf (body q) parts → Agrees q parts
agrees q parts g = let xs = contents_of (body q) parts g in subst (Agrees q) xs.1 (record { means = means_by q xs.0; faults = faults_by q xs.0 })
