-- The instructions that lowering writes anew hold all that holds of instructions: by the row of each, and by its one operand.
use Rattle.std.proofs.Common.{◌≡◌, ℕ, ◌≤◌, List, [], ◌∷◌, ◌++◌, length, refl, sym, ap, ◌∙◌, subst, arith, ℤ, pos, Bool, true, false, not, cond, Option, Some}
use Rattle.std.proofs.Common.{None}
use Rattle.std.specs.Prelude.{◌&&◌, ◌||◌, IfSome, IsTrue, int_le, is_some, if◌then◌else◌}
use Rattle.std.specs.List.{flat_map}
use Rattle.std.specs.Option.{option_to_list}
use Rattle.std.proofs.lemmas.Bool.{and_from, le-leb, or_right}
use Rattle.instruction_table.specs.Forms.{detail_of, has_one_result, is_terminator, makes_tuple, may_have_storage}
use Rattle.instruction_table.specs.declared.op.Op.{Op}
use Rattle.instruction_table.specs.declared.op.Op.TheVariants as op
use Rattle.sil_ast.specs.declared.inst.Edge.{Edge}
use Rattle.sil_ast.specs.declared.inst.Inst.{Inst}
use Rattle.sil_ast.specs.declared.inst.Qualifier.{Qualifier}
use Rattle.sil_ast.specs.declared.inst.Qualifier.TheVariants as word
use Rattle.sil_ast.specs.declared.member.Member.{Member}
use Rattle.sil_ast.specs.declared.operands.Operand.{Operand}
use Rattle.sil_ast.specs.declared.place.ValueId.{ValueId}
use Rattle.ownership_lowering_model.specs.NewInsts.{by_class, load, release, retain, struct_extract, tuple_extract, with_operands}
use Rattle.numbered_form.specs.Lists.{Each}
use Rattle.numbered_form.specs.Names.{IsMemberSpelled}
use Rattle.numbered_form.specs.inner.Literals.{is_number_by, is_number_of, is_text_by}
use Rattle.numbered_form.specs.inner.Parts.{HasItsParts, has_edges, has_operands, has_results, is_callee, is_debug, is_flags, is_member, is_number}
use Rattle.numbered_form.specs.inner.Parts.{is_signature, is_silent, is_text, is_type}
use Rattle.numbered_form.specs.inner.Parts.{is_typed, may_have, row_has}
use Rattle.numbered_form.specs.inner.Types.{HasOperandType}
use Rattle.holder_model_typing.specs.sil_types.Typing.RowTypes.{passes}
use Rattle.sil_types_declarations.specs.TypeDefinitions.Declarations.{Declarations}
use Rattle.sil_types_declarations.specs.TypeDefinitions.Mentions.{Mention, if_there, in_edge, in_inst, in_operand, in_signature, in_tuple, mention, operand_types, standing_in}
use Rattle.sil_types_declarations.specs.TypeDefinitions.Mentions.{together}
use Rattle.sil_types_declarations.specs.TypeDefinitions.Rules.{is_class_type}
use Rattle.sil_types_declarations.specs.declared.type_definitions.standing.Standing.TheVariants.{Object, Slot, Unwritten}
use Rattle.holder_model_typing.proofs.RunTypingLaws.Declared.{each_append}
use Rattle.ownership_lowering_laws.proofs.LoweredNumberingLaws.Sound.{IsSound}

-- ---- rows

-- the row has one operand with a type, and at most a member or a number beside it
pub record TakesOne (o : Op) : Type 0 where
  pub goes_on : is_terminator o ≡ false
  pub no_type : row_has is_type o ≡ false
  pub no_signature : row_has is_signature o ≡ false
  pub no_callee : row_has is_callee o ≡ false
  pub no_text : row_has is_text o ≡ false
  pub word : may_have o word.Plain ≡ true
  pub operand : (x : Operand) → is_typed x ≡ true → has_operands o (x ∷ []) ≡ true
  pub no_edges : has_edges o [] ≡ true
  pub no_tuple : makes_tuple o ≡ false

-- and neither of these, nor a result
pub record Counts (o : Op) : Type 0 where
  pub takes : TakesOne o
  pub no_member : row_has is_member o ≡ false
  pub no_number : row_has is_number o ≡ false
  pub no_result : has_results o [] ≡ true

one_alone : (b : Bool) → b ≡ true → ((b && true) || false) ≡ true
one_alone true e = refl
one_alone false e = e

takes : (o : Op) → is_terminator o ≡ false → row_has is_type o ≡ false → row_has is_signature o ≡ false → row_has is_callee o ≡ false
    → row_has is_text o ≡ false
    → may_have o word.Plain ≡ true → ((x : Operand) → has_operands o (x ∷ []) ≡ ((is_typed x && true) || false)) → has_edges o [] ≡ true
    → makes_tuple o ≡ false → TakesOne o
takes o a b c e f g h i j = record {
  goes_on = a;
  no_type = b;
  no_signature = c;
  no_callee = e;
  no_text = f;
  word = g;
  operand = λ x t. h x ∙ one_alone (is_typed x) t;
  no_edges = i;
  no_tuple = j;
}

pub load_row : TakesOne op.Load
load_row = takes op.Load refl refl refl refl refl refl (λ x. refl) refl refl

pub struct_extract_row : TakesOne op.StructExtract
struct_extract_row = takes op.StructExtract refl refl refl refl refl refl (λ x. refl) refl refl

pub tuple_extract_row : TakesOne op.TupleExtract
tuple_extract_row = takes op.TupleExtract refl refl refl refl refl refl (λ x. refl) refl refl

counts_retain : Counts op.StrongRetain
unfolding has_one_result
counts_retain = record {
  takes = takes op.StrongRetain refl refl refl refl refl refl (λ x. refl) refl refl;
  no_member = refl;
  no_number = refl;
  no_result =
      refl;
}

counts_retain_value : Counts op.RetainValue
unfolding has_one_result
counts_retain_value =
    record { takes = takes op.RetainValue refl refl refl refl refl refl (λ x. refl) refl refl; no_member = refl; no_number = refl; no_result = refl }

counts_release : Counts op.StrongRelease
unfolding has_one_result
counts_release = record {
  takes = takes op.StrongRelease refl refl refl refl refl refl (λ x. refl) refl refl;
  no_member = refl;
  no_number = refl;
  no_result =
      refl;
}

counts_release_value : Counts op.ReleaseValue
unfolding has_one_result
counts_release_value =
    record { takes = takes op.ReleaseValue refl refl refl refl refl refl (λ x. refl) refl refl; no_member = refl; no_number = refl; no_result = refl }

either_counts : (b : Bool) (one other : Op) → Counts one → Counts other → Counts (cond b one other)
either_counts true one other g h = g
either_counts false one other g h = h

pub retain_row : (d : Declarations) (x : Operand) → Counts (by_class d op.StrongRetain op.RetainValue x)
retain_row d x = either_counts (passes (is_class_type d) x.ty) op.StrongRetain op.RetainValue counts_retain counts_retain_value

pub release_row : (d : Declarations) (x : Operand) → Counts (by_class d op.StrongRelease op.ReleaseValue x)
release_row d x = either_counts (passes (is_class_type d) x.ty) op.StrongRelease op.ReleaseValue counts_release counts_release_value

-- a row with one result
some_result : (o : Op) (v : ValueId) → has_results o (v ∷ []) ≡ true
some_result o v = at (has_one_result o)
  where
    at : (b : Bool) → not (b && false) ≡ true
    at true = refl
    at false = refl

-- two rows have the same parts
pub record AreAlike (o p : Op) : Type 0 where
  pub type : row_has is_type o ≡ row_has is_type p
  pub signature : row_has is_signature o ≡ row_has is_signature p
  pub callee : row_has is_callee o ≡ row_has is_callee p
  pub member : row_has is_member o ≡ row_has is_member p
  pub number : row_has is_number o ≡ row_has is_number p
  pub text : row_has is_text o ≡ row_has is_text p
  pub flags : row_has is_flags o ≡ row_has is_flags p
  pub debug : row_has is_debug o ≡ row_has is_debug p
  pub operands : (os : List Operand) → has_operands o os ≡ has_operands p os
  pub edges : (es : List Edge) → has_edges o es ≡ has_edges p es
  pub results : (rs : List ValueId) → has_results o rs ≡ has_results p rs
  pub detail : detail_of o ≡ detail_of p
  pub storage : may_have_storage o ≡ may_have_storage p
  pub tuple : makes_tuple o ≡ makes_tuple p

pub same_row : (o : Op) → AreAlike o o
same_row o = record {
  type = refl;
  signature = refl;
  callee = refl;
  member = refl;
  number = refl;
  text = refl;
  flags = refl;
  debug = refl;
  operands = λ os. refl;
  edges = λ es. refl;
  results = λ rs. refl;
  detail = refl;
  storage = refl;
  tuple = refl;
}

pub borrow_row : AreAlike op.LoadBorrow op.Load
unfolding has_one_result
borrow_row = record {
  type = refl;
  signature = refl;
  callee = refl;
  member = refl;
  number = refl;
  text = refl;
  flags = refl;
  debug = refl;
  operands = λ os. refl;
  edges = λ es. refl;
  results = λ rs. refl;
  detail = refl;
  storage = refl;
  tuple = refl;
}

-- ---- instructions

module _ (K : ValueId → Type 0) (T : Mention → Type 0) (M : Member → Type 0) (blocks functions : ℕ) where
  abbrev Sound : Inst → Type 0
  Sound i = IsSound K T M blocks functions i

  -- an operand that a new instruction may have
  pub record IsGood (x : Operand) : Type 0 where
    pub typed : is_typed x ≡ true
    pub written : HasOperandType x
    pub known : K x.value
    pub mentioned : Each T (in_operand x)

  abbrev made : Op → List ValueId → Operand → Option Member → Option ℤ → Inst
  made o rs x member number = record (with_operands o rs (x ∷ [])) { member = member; number = number }

  made_parts : (o : Op) → TakesOne o → (rs : List ValueId) (x : Operand) (member : Option Member) (number : Option ℤ) → is_typed x ≡ true
      → has_results o rs ≡ true
      → is_some member ≡ row_has is_member o → is_some number ≡ row_has is_number o → HasItsParts (made o rs x member number)
  made_parts o row rs x member number typed results has_member has_number = record {
    ty = sym row.no_type;
    signature = sym row.no_signature;
    function = sym row.no_callee;
    member = has_member;
    number = has_number;
    text = sym row.no_text;
    qualifier = row.word;
    flags = or_right (row_has is_flags o) true refl;
    debug = or_right (row_has is_debug o) true refl;
    operands = row.operand x typed;
    edges = row.no_edges;
    results = results;
  }

  made_mentions : (o : Op) → TakesOne o → (rs : List ValueId) (x : Operand) (member : Option Member) (number : Option ℤ) → Each T (in_operand x)
      → Each T (in_inst (made o rs x member number))
  made_mentions o row rs x member number h =
      each_append T (in_operand x ++ [] ++ []) (in_tuple (made o rs x member number))
      (each_append T (in_operand x ++ []) [] (each_append T (in_operand x) [] h tt) tt)
      (subst (λ b. Each T (if b then mention Unwritten (together (flat_map operand_types (x ∷ []))) ∷ [] else [])) (sym row.no_tuple) tt)

  pub made_sound : (o : Op) → TakesOne o → (rs : List ValueId) (x : Operand) (member : Option Member) (number : Option ℤ) → IsGood x → length rs ≤ 64
      → has_results o rs ≡ true
      → is_some member ≡ row_has is_member o → is_some number ≡ row_has is_number o → IfSome member IsMemberSpelled
      → IfSome number (λ n. IsTrue (is_number_of o None n))
      → Each M (option_to_list member) → Sound (made o rs x member number)
  made_sound o row rs x member number good few results has_member has_number spelled literal named = record {
    parts = made_parts o row rs x member number good.typed results has_member has_number;
    literals = record { number = literal; text = tt; argno = tt };
    spelled = record { member = spelled; text = tt; debug = tt; edges = tt };
    types = record { ty = tt; signature = tt; operands = (good.written, tt); edges = tt };
    limits = record { operands = omega arith; results = few; signature = tt; edges = tt };
    uses = record { operands = (good.known, tt); edges = tt; function = tt };
    mentioned = made_mentions o row rs x member number good.mentioned;
    named = each_append M (option_to_list member) [] named tt;
  }

  counting : (o : Op) → Counts o → (x : Operand) → IsGood x → Sound (with_operands o [] (x ∷ []))
  counting o row x good = made_sound o row.takes [] x None None good (omega arith) row.no_result (sym row.no_member) (sym row.no_number) tt tt tt

  pub retain_sound : (d : Declarations) (x : Operand) → IsGood x → Sound (retain d x)
  retain_sound d x good = counting (by_class d op.StrongRetain op.RetainValue x) (retain_row d x) x good

  pub release_sound : (d : Declarations) (x : Operand) → IsGood x → Sound (release d x)
  release_sound d x good = counting (by_class d op.StrongRelease op.ReleaseValue x) (release_row d x) x good

  pub load_sound : (place : Operand) (v : ValueId) → IsGood place → Sound (load place v)
  load_sound place v good = made_sound op.Load load_row (v ∷ []) place None None good (omega arith) (some_result op.Load v) refl refl tt tt tt

  pub struct_extract_sound : (x : Operand) (m : Member) (v : ValueId) → IsGood x → IsMemberSpelled m → M m → Sound (struct_extract x m v)
  struct_extract_sound x m v good spelled named =
      made_sound op.StructExtract struct_extract_row (v ∷ []) x (Some m) None good (omega arith) (some_result op.StructExtract v) refl refl spelled tt
      (named, tt)

  is_element : (n : ℕ) → n ≤ 63 → (int_le (pos 0) (pos n) && int_le (pos n) (pos 63)) ≡ true
  is_element n le = and_from (int_le (pos 0) (pos n)) (int_le (pos n) (pos 63)) (le-leb 0 n (omega arith)) (le-leb n 63 le)

  pub tuple_extract_sound : (x : Operand) (n : ℕ) (v : ValueId) → IsGood x → n ≤ 63 → Sound (tuple_extract x n v)
  tuple_extract_sound x n v good le =
      made_sound op.TupleExtract tuple_extract_row (v ∷ []) x None (Some (pos n)) good (omega arith) (some_result op.TupleExtract v) refl refl tt
      (is_element n le) tt

  -- ---- an instruction whose row changes for one alike, and whose word for another

  module _ (i : Inst) (o p : Op) (q : Qualifier) (e : i.op ≡ o) (row : AreAlike o p) (may : may_have p q ≡ true) (s : Sound i) where
    reworded_parts : HasItsParts (record i { op = p; qualifier = q })
    reworded_parts = record {
      ty = s.parts.ty ∙ ap (row_has is_type) e ∙ row.type;
      signature = s.parts.signature ∙ ap (row_has is_signature) e ∙ row.signature;
      function = s.parts.function ∙ ap (row_has is_callee) e ∙ row.callee;
      member = s.parts.member ∙ ap (row_has is_member) e ∙ row.member;
      number = s.parts.number ∙ ap (row_has is_number) e ∙ row.number;
      text = s.parts.text ∙ ap (row_has is_text) e ∙ row.text;
      qualifier = may;
      flags = subst (λ b. (b || not (i.lexical || i.var_decl)) ≡ true) (ap (row_has is_flags) e ∙ row.flags) s.parts.flags;
      debug = subst (λ b. (b || is_silent i.debug) ≡ true) (ap (row_has is_debug) e ∙ row.debug) s.parts.debug;
      operands = sym (ap (λ x. has_operands x i.operands) e ∙ row.operands i.operands) ∙ s.parts.operands;
      edges = sym (ap (λ x. has_edges x i.edges) e ∙ row.edges i.edges) ∙ s.parts.edges;
      results = sym (ap (λ x. has_results x i.results) e ∙ row.results i.results) ∙ s.parts.results;
    }

    reworded_mentions : in_inst i ≡ in_inst (record i { op = p; qualifier = q })
    reworded_mentions =
        let tuple : Bool → List Mention = λ b. (if b then mention Unwritten (together (flat_map operand_types i.operands)) ∷ [] else []) in
        ap (λ b. if_there (if b then Slot else Object) i.ty ++ flat_map in_signature
        (option_to_list i.signature) ++ flat_map in_operand i.operands ++ flat_map in_edge i.edges ++ in_tuple i)
        (ap may_have_storage e ∙ row.storage)
        ∙ ap (λ b. if_there (standing_in p) i.ty ++ flat_map in_signature
        (option_to_list i.signature) ++ flat_map in_operand i.operands ++ flat_map in_edge i.edges ++ tuple b)
        (ap makes_tuple e ∙ row.tuple)

    pub reworded_sound : Sound (record i { op = p; qualifier = q })
    reworded_sound = record {
      parts = reworded_parts;
      literals = record {
        number = subst (λ x. IfSome i.number (λ n. IsTrue (is_number_by x i.ty n))) (ap detail_of e ∙ row.detail) s.literals.number;
        text = subst (λ x. IfSome i.text (λ text. IsTrue (is_text_by x text))) (ap detail_of e ∙ row.detail) s.literals.text;
        argno = s.literals.argno;
      };
      spelled = record { member = s.spelled.member; text = s.spelled.text; debug = s.spelled.debug; edges = s.spelled.edges };
      types = record { ty = s.types.ty; signature = s.types.signature; operands = s.types.operands; edges = s.types.edges };
      limits = record { operands = s.limits.operands; results = s.limits.results; signature = s.limits.signature; edges = s.limits.edges };
      uses = record { operands = s.uses.operands; edges = s.uses.edges; function = s.uses.function };
      mentioned = subst (Each T) reworded_mentions s.mentioned;
      named = s.named;
    }
