-- What stands at the points of a lowered function.
use Rattle.std.proofs.Common.{◌≡◌, ℕ, zero, suc, ◌+◌, ◌≤◌, List, [], ◌∷◌, ◌++◌, map, length, take, arith, refl, sym, ap, ◌∙◌, Bool, true, false, Option, Some, None}
use Rattle.std.specs.Prelude.{slice_get}
use Rattle.std.specs.List.{flat_map}
use Rattle.std.proofs.lemmas.List.{length-append}
use Rattle.std.proofs.lemmas.Option.{none-some, same_Some, slice_get_past}
use Rattle.sil_ast.specs.declared.function.Block.{Block}
use Rattle.sil_ast.specs.declared.function.Function.{Function}
use Rattle.sil_ast.specs.declared.inst.Edge.{Edge}
use Rattle.sil_ast.specs.declared.inst.Inst.{Inst}
use Rattle.sil_ast.specs.declared.inst.Qualifier.{Qualifier}
use Rattle.sil_ast.specs.declared.inst.Qualifier.TheVariants as word
use Rattle.sil_ast.specs.declared.place.EdgeId.{EdgeId}
use Rattle.sil_ast.specs.declared.place.PointId.{PointId}
use Rattle.sil_ast.specs.declared.place.ValueId.{ValueId}
use Rattle.numbered_form.specs.Numbering.{values_of}
use Rattle.sil_cfg_items.specs.Parts.{edge_at, edge_in, inst_at, inst_in, terminator_in, terminator_of}
use Rattle.ownership_kinds_chains.specs.declared.ownership_chains.definition.Definition.{Definition}
use Rattle.sil_types_declarations.specs.TypeDefinitions.Declarations.{Declarations}
use Rattle.sil_verifier_runs.specs.holder_model.Standing.{first_point, point_behind}
use Rattle.sil_verifier_runs.specs.ownership_kinds_origins.Renamings.{renamings_of}
use Rattle.sil_types.specs.Typing.FormRules.{is_at_storage}
use Rattle.ownership_lowering_laws.specs.ownership_lowering_model.LoweredBlocks.{block_becomes, blocks_become, insts_become, lowered_blocks, value_with}
use Rattle.ownership_lowering_laws.specs.ownership_lowering_model.LoweredInsts.{assigns, becomes, becomes_by, destroys_by, lowering_of, loads_by, operand_at, releases_at, stores_by}
use Rattle.ownership_lowering_laws.specs.ownership_lowering_model.LoweredModules.{lowered_body}
use Rattle.ownership_lowering_laws.specs.ownership_lowering_model.Numbers.{renumbered_block, renumbered_edge, renumbered_inst}
use Rattle.ownership_lowering_laws.specs.ownership_lowering_model.declared.lowering.Lowering.{Lowering}
use Rattle.ownership_lowering_laws.specs.ownership_lowering_model.declared.lowering.Lowering.TheVariants as lowering
use Rattle.ownership_lowering_runs.specs.StoredRuns.inner.Names.{lowered_number}
use Rattle.ownership_lowering_runs.specs.StoredRuns.inner.Points.{insts_before, insts_of, lowered_length, lowered_point}

-- ---- lists

pub mapped_at : {A B : Type 0} (f : A → B) (xs : List A) (k : ℕ) (x : A) → slice_get xs k ≡ Some x → slice_get (map f xs) k ≡ Some (f x)
mapped_at f [] k x e = absurd (none-some x e)
mapped_at f (y ∷ xs) zero x e = ap (λ z. Some (f z)) (same_Some y x e)
mapped_at f (y ∷ xs) (suc k) x e = mapped_at f xs k x e

mapped_length : {A B : Type 0} (f : A → B) (xs : List A) → length (map f xs) ≡ length xs
mapped_length f [] = refl
mapped_length f (x ∷ xs) = ap suc (mapped_length f xs)

joined_again : {A : Type 0} (xs ys zs : List A) → xs ++ (ys ++ zs) ≡ (xs ++ ys) ++ zs
joined_again [] ys zs = refl
joined_again (x ∷ xs) ys zs = ap (λ l. x ∷ l) (joined_again xs ys zs)

-- the element so far behind a first part
behind_first : {A : Type 0} (xs ys : List A) (k : ℕ) → slice_get (xs ++ ys) (length xs + k) ≡ slice_get ys k
behind_first [] ys k = ap (slice_get ys) (omega arith)
behind_first (x ∷ xs) ys k = ap (slice_get (x ∷ (xs ++ ys))) (next x xs k) ∙ behind_first xs ys k
  where
    next : {A : Type 0} (x : A) (xs : List A) (k : ℕ) → length (x ∷ xs) + k ≡ suc (length xs + k)
    next x xs k = omega arith

within_first : {A : Type 0} (xs ys : List A) (k : ℕ) (x : A) → slice_get xs k ≡ Some x → slice_get (xs ++ ys) k ≡ Some x
within_first [] ys k x e = absurd (none-some x e)
within_first (y ∷ xs) ys zero x e = e
within_first (y ∷ xs) ys (suc k) x e = within_first xs ys k x e

all_taken : {A : Type 0} (xs : List A) (k : ℕ) → slice_get xs k ≡ None → take k xs ≡ xs
all_taken [] zero e = refl
all_taken [] (suc k) e = refl
all_taken (x ∷ xs) zero e = absurd (none-some x (sym e))
all_taken (x ∷ xs) (suc k) e = ap (λ l. x ∷ l) (all_taken xs k e)

one_more_taken : {A : Type 0} (xs : List A) (k : ℕ) (x : A) → slice_get xs k ≡ Some x → take (suc k) xs ≡ take k xs ++ x ∷ []
one_more_taken [] k x e = absurd (none-some x e)
one_more_taken (y ∷ xs) zero x e = ap (λ z. z ∷ take zero xs) (same_Some y x e) ∙ ap (λ l. x ∷ l) (none_taken xs)
  where
    none_taken : {A : Type 0} (xs : List A) → take zero xs ≡ []
    none_taken [] = refl
    none_taken (x ∷ xs) = refl
one_more_taken (y ∷ xs) (suc k) x e = ap (λ l. y ∷ l) (one_more_taken xs k x e)

-- ---- an instruction becomes as many whichever spare value it has

flat_as_long : {A B : Type 0} (f g : A → List B) (xs : List A) → ((x : A) → length (f x) ≡ length (g x)) → length (flat_map f xs) ≡ length (flat_map g xs)
flat_as_long f g [] h = refl
flat_as_long f g (x ∷ xs) h =
    let a = length-append (f x) (flat_map f xs) in
    let b = length-append (g x) (flat_map g xs) in
    let c = h x in
    let rest = flat_as_long f g xs h in
    omega (arith, a, b, c, rest)

module _ (d : Declarations) (s t : ValueId) (i : Inst) where
  loads_as_long : (q : Qualifier) → length (loads_by d s q i) ≡ length (loads_by d t q i)
  loads_as_long word.Plain = refl
  loads_as_long word.Copy = refl
  loads_as_long word.Take = refl
  loads_as_long word.Trivial = refl
  loads_as_long word.Init = refl
  loads_as_long word.Assign = refl

  stores_as_long : (q : Qualifier) → length (stores_by d s q i) ≡ length (stores_by d t q i)
  stores_as_long word.Plain = refl
  stores_as_long word.Copy = refl
  stores_as_long word.Take = refl
  stores_as_long word.Trivial = refl
  stores_as_long word.Init = refl
  stores_as_long word.Assign = flat_as_long (assigns d s i) (assigns d t i) (operand_at 1 i) (λ o. refl)

  destroys_as_long : (b : Bool) → length (destroys_by d s b i) ≡ length (destroys_by d t b i)
  destroys_as_long true = refl
  destroys_as_long false = flat_as_long (releases_at d s) (releases_at d t) i.operands (λ o. refl)

  becomes_as_long : (x : Lowering) → length (becomes_by d s x i) ≡ length (becomes_by d t x i)
  becomes_as_long lowering.Stays = refl
  becomes_as_long lowering.Vanishes = refl
  becomes_as_long lowering.Retains = refl
  becomes_as_long lowering.Releases = refl
  becomes_as_long lowering.Loads = loads_as_long i.qualifier
  becomes_as_long lowering.Stores = stores_as_long i.qualifier
  becomes_as_long lowering.Destroys = destroys_as_long (is_at_storage i)
  becomes_as_long lowering.ExtractsFields = refl
  becomes_as_long lowering.ExtractsElements = refl

module _ (d : Declarations) (renamings : List Definition) where
  insts_as_long : (is : List Inst) (s t : ℕ) → length (insts_become d renamings s is) ≡ length (insts_become d renamings t is)
  insts_as_long [] s t = refl
  insts_as_long (i ∷ is) s t =
      let a = length-append (becomes d (value_with s) i) (insts_become d renamings (s + 1) is) in
      let b = length-append (becomes d (value_with t) i) (insts_become d renamings (t + 1) is) in
      let c = becomes_as_long d (value_with s) (value_with t) i (lowering_of i.op) in
      let rest = insts_as_long is (s + 1) (t + 1) in
      omega (arith, a, b, c, rest)

  -- what becomes of an instruction stands behind what became of those before it
  pub record BecomesAt (s : ℕ) (is : List Inst) (k : ℕ) (i : Inst) : Type 0 where
    pub spare : ℕ
    pub beyond : s ≤ spare
    pub rest : List Inst
    pub is_there : insts_become d renamings s is ≡ insts_become d renamings s (take k is) ++ (becomes d (value_with spare) i ++ rest)

  becomes_at : (s : ℕ) (is : List Inst) (k : ℕ) (i : Inst) → slice_get is k ≡ Some i → BecomesAt s is k i
  becomes_at s [] k i e = absurd (none-some i e)
  becomes_at s (j ∷ is) zero i e = record {
    spare = s;
    beyond = omega arith;
    rest = insts_become d renamings (s + 1) is;
    is_there = ap (λ x. becomes d (value_with s) x ++ insts_become d renamings (s + 1) is) (same_Some j i e);
  }
  becomes_at s (j ∷ is) (suc k) i e =
      let at = becomes_at (s + 1) is k i e in
      record {
        spare = at.spare;
        beyond = (let h = at.beyond in omega arith);
        rest = at.rest;
        is_there = ap (λ l. becomes d (value_with s) j ++ l) at.is_there
            ∙ joined_again (becomes d (value_with s) j) (insts_become d renamings (s + 1) (take k is)) (becomes d (value_with at.spare) i ++ at.rest);
      }

  block_at : (s : ℕ) (bs : List Block) (k : ℕ) (b : Block) → slice_get bs k ≡ Some b
      → (spare : ℕ) × (slice_get (blocks_become d renamings s bs) k ≡ Some (block_becomes d renamings spare b)) × (s ≤ spare)
  block_at s [] k b e = absurd (none-some b e)
  block_at s (c ∷ bs) zero b e = (s, ap (λ x. Some (block_becomes d renamings s x)) (same_Some c b e), omega arith)
  block_at s (c ∷ bs) (suc k) b e = let at = block_at (s + length c.insts) bs k b e in (at.0, at.1, (let h = at.2 in omega arith))

-- ---- the points of a function

inst_parts : (f : Function) (p : PointId) (i : Inst) → inst_at f p ≡ Some i → (b : Block) × (slice_get f.blocks p.block.0 ≡ Some b) × (slice_get b.insts p.index ≡ Some i)
inst_parts f p i e = at (slice_get f.blocks p.block.0) refl e
  where
    at : (o : Option Block) → slice_get f.blocks p.block.0 ≡ o → inst_in o p.index ≡ Some i → (b : Block) × (slice_get f.blocks p.block.0 ≡ Some b) × (slice_get b.insts p.index ≡ Some i)
    at None e g = absurd (none-some i g)
    at (Some b) e g = (b, e, g)

end_parts : (f : Function) (p : PointId) (i : Inst) → inst_at f p ≡ None → terminator_of f p.block.0 ≡ Some i
    → (b : Block) × (slice_get f.blocks p.block.0 ≡ Some b) × (slice_get b.insts p.index ≡ None) × (b.terminator ≡ i)
end_parts f p i none e = at (slice_get f.blocks p.block.0) refl none e
  where
    at : (o : Option Block) → slice_get f.blocks p.block.0 ≡ o → inst_in o p.index ≡ None → terminator_in o ≡ Some i
        → (b : Block) × (slice_get f.blocks p.block.0 ≡ Some b) × (slice_get b.insts p.index ≡ None) × (b.terminator ≡ i)
    at None e g t = absurd (none-some i t)
    at (Some b) e g t = (b, e, g, same_Some b.terminator i t)

module _ (d : Declarations) (f : Function) where
  abbrev pub low : Function
  low = lowered_body d f

  -- the point so many lowered instructions behind what became of those before the point
  abbrev pub point_further : PointId → ℕ → PointId
  point_further p j = record p { index = (lowered_point d f p).index + j }

  pub low_block : (k : ℕ) (b : Block) → slice_get f.blocks k ≡ Some b
      → (spare : ℕ) × (slice_get low.blocks k ≡ Some (renumbered_block (lowered_number d f) (block_becomes d (renamings_of f) spare b)))
      × (slice_get (lowered_blocks d f) k ≡ Some (block_becomes d (renamings_of f) spare b)) × (length (values_of f.blocks) ≤ spare)
  low_block k b e =
      let at = block_at d (renamings_of f) (length (values_of f.blocks)) f.blocks k b e in
      (at.0, mapped_at (renumbered_block (lowered_number d f)) (lowered_blocks d f) k (block_becomes d (renamings_of f) at.0 b) at.1, at.1, at.2)

  -- an instruction is lowered to these, at the lowered point of where it stands, with some spare value
  pub record IsLoweredTo (p : PointId) (i : Inst) : Type 0 where
    pub spare : ℕ
    pub each : (j : ℕ) (x : Inst) → slice_get (becomes d (value_with spare) i) j ≡ Some x → inst_at low (point_further p j) ≡ Some (renumbered_inst (lowered_number d f) x)
    pub next : (lowered_point d f (point_behind p)).index ≡ (lowered_point d f p).index + length (becomes d (value_with spare) i)
    -- the spare value is none of the function's, and these stand among the lowered blocks
    pub beyond : length (values_of f.blocks) ≤ spare
    pub among : (j : ℕ) (x : Inst) → slice_get (becomes d (value_with spare) i) j ≡ Some x
        → (b : Block) × (slice_get (lowered_blocks d f) p.block.0 ≡ Some b) × (slice_get b.insts ((lowered_point d f p).index + j) ≡ Some x)

  pub lowered_inst : (p : PointId) (i : Inst) → inst_at f p ≡ Some i → IsLoweredTo p i
  lowered_inst p i e =
      let b = inst_parts f p i e in
      let there = low_block p.block.0 b.0 b.1 in
      let at = becomes_at d (renamings_of f) there.0 b.0.insts p.index i b.2 in
      let before : insts_before f p ≡ take p.index b.0.insts = ap (λ o. take p.index (insts_of o)) b.1 in
      let front : List Inst = insts_become d (renamings_of f) there.0 (take p.index b.0.insts) in
      let size : length front ≡ (lowered_point d f p).index =
      insts_as_long d (renamings_of f) (take p.index b.0.insts) there.0 0 ∙ ap (lowered_length d f) (sym before) in
      let stands : (j : ℕ) (x : Inst) → slice_get (becomes d (value_with at.spare) i) j ≡ Some x
      → slice_get (insts_become d (renamings_of f) there.0 b.0.insts) ((lowered_point d f p).index + j) ≡ Some x = λ j x is.
      ap (λ l. slice_get l ((lowered_point d f p).index + j)) at.is_there
      ∙ ap (λ n. slice_get (front ++ (becomes d (value_with at.spare) i ++ at.rest)) (n + j)) (sym size)
      ∙ behind_first front (becomes d (value_with at.spare) i ++ at.rest) j
      ∙ within_first (becomes d (value_with at.spare) i) at.rest j x is in
      record {
        spare = at.spare;
        each = λ j x is.
            ap (λ o. inst_in o ((lowered_point d f p).index + j)) there.1
            ∙ mapped_at (renumbered_inst (lowered_number d f)) (insts_become d (renamings_of f) there.0 b.0.insts) ((lowered_point d f p).index + j) x (stands j x is);
        beyond = (let h = there.3 in let k = at.beyond in omega arith);
        among = λ j x is. (block_becomes d (renamings_of f) there.0 b.0, there.2, stands j x is);
        next = ap (λ o. lowered_length d f (take (suc p.index) (insts_of o))) b.1
            ∙ ap (lowered_length d f) (one_more_taken b.0.insts p.index i b.2)
            ∙ last_as_long (take p.index b.0.insts) 0 at.spare ∙ ap (λ l. lowered_length d f l + length (becomes d (value_with at.spare) i)) (sym before);
      }
    where
      last_as_long : (is : List Inst) (s t : ℕ) → length (insts_become d (renamings_of f) s (is ++ i ∷ [])) ≡ length (insts_become d (renamings_of f) s is) + length (becomes d (value_with t) i)
      last_as_long [] s t =
          let a = length-append (becomes d (value_with s) i) [] in
          let c = becomes_as_long d (value_with s) (value_with t) i (lowering_of i.op) in
          let none : length (insts_become d (renamings_of f) s []) ≡ 0 = refl in
          omega (arith, a, c, none)
      last_as_long (x ∷ is) s t =
          let a = length-append (becomes d (value_with s) x) (insts_become d (renamings_of f) (s + 1) (is ++ i ∷ [])) in
          let b = length-append (becomes d (value_with s) x) (insts_become d (renamings_of f) (s + 1) is) in
          let rest = last_as_long is (s + 1) t in
          omega (arith, a, b, rest)

  pub record IsLoweredEnd (p : PointId) (i : Inst) : Type 0 where
    pub behind : inst_at low (lowered_point d f p) ≡ None
    pub terminator : terminator_of low p.block.0 ≡ Some (renumbered_inst (lowered_number d f) i)

  -- behind all instructions of a block stands its terminator
  pub lowered_end : (p : PointId) (i : Inst) → inst_at f p ≡ None → terminator_of f p.block.0 ≡ Some i → IsLoweredEnd p i
  lowered_end p i none e =
      let b = end_parts f p i none e in
      let there = low_block p.block.0 b.0 b.1 in
      let size : length (insts_become d (renamings_of f) there.0 b.0.insts) ≡ (lowered_point d f p).index =
      insts_as_long d (renamings_of f) b.0.insts there.0 0
      ∙ ap (lowered_length d f) (sym (all_taken b.0.insts p.index b.2)) ∙ ap (λ o. lowered_length d f (take p.index (insts_of o))) (sym b.1) in
      let long = mapped_length (renumbered_inst (lowered_number d f)) (insts_become d (renamings_of f) there.0 b.0.insts) in
      record {
        behind = ap (λ o. inst_in o (lowered_point d f p).index) there.1
            ∙ slice_get_past (map (renumbered_inst (lowered_number d f)) (insts_become d (renamings_of f) there.0 b.0.insts)) (lowered_point d f p).index
            (omega (arith, size, long));
        terminator = ap terminator_in there.1 ∙ ap (λ t. Some (renumbered_inst (lowered_number d f) t)) b.3;
      }

  -- the terminators of lowered blocks, and their edges
  pub low_terminator : (k : ℕ) (t : Inst) → terminator_of f k ≡ Some t → terminator_of low k ≡ Some (renumbered_inst (lowered_number d f) t)
  low_terminator k t e = at (slice_get f.blocks k) refl e
    where
      at : (o : Option Block) → slice_get f.blocks k ≡ o → terminator_in o ≡ Some t → terminator_of low k ≡ Some (renumbered_inst (lowered_number d f) t)
      at None is h = absurd (none-some t h)
      at (Some b) is h =
          ap terminator_in (low_block k b is).1 ∙ ap (λ x. Some (renumbered_inst (lowered_number d f) x)) (same_Some b.terminator t h)

  pub low_edge : (e : EdgeId) (y : Edge) → edge_at f e ≡ Some y → edge_at low e ≡ Some (renumbered_edge (lowered_number d f) y)
  low_edge e y is = at (terminator_of f e.block.0) refl is
    where
      at : (o : Option Inst) → terminator_of f e.block.0 ≡ o → edge_in o e.index ≡ Some y → edge_at low e ≡ Some (renumbered_edge (lowered_number d f) y)
      at None there h = absurd (none-some y h)
      at (Some t) there h =
          ap (λ o. edge_in o e.index) (low_terminator e.block.0 t there) ∙ mapped_at (renumbered_edge (lowered_number d f)) t.edges e.index y h

  -- lowered blocks begin where the blocks do
  pub first_lowered : (k : ℕ) → first_point k ≡ lowered_point d f (first_point k)
  first_lowered k = ap (λ n. record (first_point k) { index = n }) (none (insts_of (slice_get f.blocks k)))
    where
      none : (is : List Inst) → 0 ≡ lowered_length d f (take 0 is)
      none [] = refl
      none (i ∷ is) = refl
