-- Triples put cell after cell. The triples of a cell depend on the cells before it.
use Rattle.std.proofs.Common.{◌≡◌, ℕ, ◌+◌, ◌<◌, ◌≤◌, zero, suc, Bool, true, false, cond, List, [], ◌∷◌, ◌++◌, refl, sym, ap, ◌∙◌, arith, drop, length}
use Rattle.std.proofs.Common.{append-nil, append_assoc, add-one, get_or}
use Rattle.std.proofs.Math.Seq.{drop-cons, drop-nil}
use Rattle.std.specs.Prelude.{Ok, Err, Option}
use Rattle.std.specs.List.{zip}
use Rattle.csvw_columns_core.specs.declared.column.Column.{Column}
use Rattle.csvw_annotate.specs.declared.row.AnnCell.{AnnCell}
use Rattle.csvw_triples_core.specs.declared.sink.SinkFault.{SinkFault}
use Rattle.csvw_triples_core.specs.declared.term.Triple.{Triple}
use Rattle.csvw_triples_rows.specs.Puts.{Puts}
use Rattle.csvw_triples_rows.specs.StandardTriples.{described_triples, described_cells, last_after}
use Rattle.csvw_triples_rows.proofs.Emitting.{puts_nothing, puts_then, puts_part, puts_same}

module _ {S : Type 0} (gains : S → List Triple → S → Type 0) (cuts : S → Triple → S → Type 0) (is_open : S → Bool) (failed : S → ℕ) where
  -- all but the rest was put
  pub record Walked (old : S) (all rest : List Triple) (new : S) : Type 0 where
    pub done : List Triple
    pub parts : all ≡ done ++ rest
    pub puts : Puts gains cuts is_open failed old done new (Ok tt)

  pub starts : (stays : (s : S) → gains s [] s) (s : S) (all : List Triple) → Walked s all all s
  starts stays s all = record { done = []; parts = refl; puts = puts_nothing gains cuts is_open failed stays s [] refl }

  pub ends : (old new : S) (all rest : List Triple) → rest ≡ [] → Walked old all rest new → Puts gains cuts is_open failed old all new (Ok tt)
  ends old new all rest e w =
      puts_same gains cuts is_open failed old new w.done all (Ok tt) (sym (append-nil w.done) ∙ ap (λ ts. w.done ++ ts) (sym e) ∙ sym w.parts) w.puts

  module _ (goes_on : (a b c : S) (xs ys : List Triple) → gains a xs b → gains b ys c → gains a (xs ++ ys) c) where
    pub walks_on : (old mid new : S) (all rest more others : List Triple) → rest ≡ more ++ others → Walked old all rest mid
        → Puts gains cuts is_open failed mid more new (Ok tt) → Walked old all others new
    walks_on old mid new all rest more others e w p = record {
      done = w.done ++ more;
      parts = w.parts ∙ ap (λ ts. w.done ++ ts) e ∙ sym (append_assoc w.done more others);
      puts = puts_then gains cuts is_open failed goes_on old mid new w.done more (w.done ++ more) (Ok tt) refl w.puts p;
    }

    pub walk_fails : (old mid new : S) (all rest more others : List Triple) (f : SinkFault) → rest ≡ more ++ others → Walked old all rest mid
        → Puts gains cuts is_open failed mid more new (Err f) → Puts gains cuts is_open failed old all new (Err f)
    walk_fails old mid new all rest more others f e w p =
        puts_part gains cuts is_open failed goes_on old mid new w.done more others all f
        (w.parts ∙ ap (λ ts. w.done ++ ts) e ∙ sym (append_assoc w.done more others)) w.puts p

-- what isn't suppressed is given whole
pub shown : {X : Type 0} (b : Bool) (xs : List X) → b ≡ false → cond b [] xs ≡ xs
shown true xs e = cc
shown false xs e = refl

-- the triples from one on
pub next_triple : (xs : List Triple) (i : ℕ) (x : Triple) → i < length xs → x ≡ get_or xs i x → drop i xs ≡ (x ∷ []) ++ drop (i + 1) xs
next_triple xs i x h e =
    drop-cons xs i x h ∙ ap (λ (y : Triple). y ∷ drop (suc i) xs) (sym e) ∙ ap (λ n. x ∷ drop n xs) (sym (add-one i))

-- the cells from one on

pub next_pair : (columns : List Column) (cells : List AnnCell) (i : ℕ) (c : Column) (v : AnnCell) → i < length columns → i < length cells
    → drop i (zip columns cells) ≡ (get_or columns i c, get_or cells i v) ∷ drop (suc i) (zip columns cells)
next_pair [] cells i c v h k = absurd (omega (arith, h))
next_pair (x ∷ columns) [] i c v h k = absurd (omega (arith, k))
next_pair (x ∷ columns) (y ∷ cells) zero c v h k = refl
next_pair (x ∷ columns) (y ∷ cells) (suc i) c v h k = next_pair columns cells i c v (omega (arith, h)) (omega (arith, k))

pub no_pairs : (columns : List Column) (cells : List AnnCell) (i : ℕ) → length cells ≤ i → drop i (zip columns cells) ≡ []
no_pairs [] cells i h = drop-nil i
no_pairs (x ∷ columns) [] i h = drop-nil i
no_pairs (x ∷ columns) (y ∷ cells) zero h = absurd (omega (arith, h))
no_pairs (x ∷ columns) (y ∷ cells) (suc i) h = no_pairs columns cells i (omega (arith, h))

module _ (t number : ℕ) (columns : List Column) (cells : List AnnCell) where
  abbrev pub from : ℕ → Option AnnCell → List Triple
  from i last = described_cells t number last (drop i (zip columns cells))

  pub next_cell : (i : ℕ) (last next : Option AnnCell) (c : Column) (v : AnnCell) → i < length columns → i < length cells
      → c ≡ get_or columns i c → v ≡ get_or cells i v → next ≡ last_after c last v
      → from i last ≡ described_triples t number c last v ++ from (i + 1) next
  next_cell i last next c v h k p q e =
      ap (described_cells t number last) (next_pair columns cells i c v h k)
      ∙ ap (λ (x : Column). described_cells t number last ((x, get_or cells i v) ∷ drop (suc i) (zip columns cells))) (sym p)
      ∙ ap (λ (y : AnnCell). described_cells t number last ((c, y) ∷ drop (suc i) (zip columns cells))) (sym q)
      ∙ ap (λ o. described_triples t number c last v ++ described_cells t number o (drop (suc i) (zip columns cells))) (sym e)
      ∙ ap (λ n. described_triples t number c last v ++ from n next) (sym (add-one i))

  pub no_cells : (i : ℕ) (last : Option AnnCell) → length cells ≤ i → from i last ≡ []
  no_cells i last h = ap (described_cells t number last) (no_pairs columns cells i h)
