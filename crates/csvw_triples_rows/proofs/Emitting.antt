-- Triples that are put one after the other.
use Rattle.std.proofs.Common.{◌≡◌, ℕ, ◌+◌, List, [], ◌++◌, Bool, refl, sym, ap, ◌∙◌, subst, append_assoc}
use Rattle.std.specs.Prelude.{Result, Ok, Err, IfErr}
use Rattle.csvw_triples_core.specs.declared.sink.SinkFault.{SinkFault}
use Rattle.csvw_triples_core.specs.declared.sink.SinkFault.TheVariants.{Memory, Device, Closed}
use Rattle.csvw_triples_core.specs.declared.term.Triple.{Triple}
use Rattle.csvw_triples_core.specs.Taking.{FrontOf, IsAsReady, IsCutAfter, Ends}
use Rattle.csvw_triples_rows.specs.Puts.{IsDevice, Puts, Takes}

module _ {S : Type 0} (gains : S → List Triple → S → Type 0) (cuts : S → Triple → S → Type 0) (is_open : S → Bool) (failed : S → ℕ) where
  -- the state of the sink after a later call
  ends_later : (old mid new : S) (r : Result Unit SinkFault) → IsAsReady is_open failed old mid
      → Ends is_open failed mid new r → Ends is_open failed old new r
  ends_later old mid new (Ok u) s h = (h.0 ∙ s.0, h.1 ∙ s.1)
  ends_later old mid new (Err Memory) s h = (h.0 ∙ s.0, h.1 ∙ s.1)
  ends_later old mid new (Err Device) s h = (h.0, λ room. h.1 (rw s.1 room) ∙ ap (λ n. n + 1) s.1)
  ends_later old mid new (Err Closed) s h = (sym s.0 ∙ h.0, (h.1.0 ∙ s.0, h.1.1 ∙ s.1))

  -- what a call that failed took, by the fault
  pub front_of : (old new : S) (all : List Triple) (r : Result Unit SinkFault) → Takes gains cuts old all new r
      → IfErr r (λ fault. FrontOf gains cuts old all new (fault ≡ Device))
  front_of old new all (Ok u) h = tt
  front_of old new all (Err e) h =
      record { front = h.front; rest = h.rest; parts = h.parts; gained = h.gained; cut = λ is. h.cut (subst IsDevice (sym is) tt) }

  -- a cut within the rest is one within the rest and more
  cut_longer : (old new : S) (front rest more : List Triple) → IsCutAfter gains cuts old front rest new → IsCutAfter gains cuts old front (rest ++ more) new
  cut_longer old new front rest more k = record {
    middle = k.middle;
    before = k.before;
    next = k.next;
    more = k.more ++ more;
    rest_is = ap (λ ts. ts ++ more) k.rest_is;
    cut = k.cut;
  }

  -- a front of the first triples is one of them and more
  pub puts_front : (old new : S) (xs rest all : List Triple) (e : SinkFault) → all ≡ xs ++ rest
      → Puts gains cuts is_open failed old xs new (Err e) → Puts gains cuts is_open failed old all new (Err e)
  puts_front old new xs rest all e same p = record {
    takes = record {
      front = p.takes.front;
      rest = p.takes.rest ++ rest;
      parts = same ∙ ap (λ ts. ts ++ rest) p.takes.parts ∙ append_assoc p.takes.front p.takes.rest rest;
      gained = p.takes.gained;
      cut = λ fails. cut_longer old new p.takes.front p.takes.rest rest (p.takes.cut fails);
    };
    ends = p.ends;
  }

  -- the same triples
  pub puts_same : (old new : S) (xs ys : List Triple) (r : Result Unit SinkFault) → xs ≡ ys
      → Puts gains cuts is_open failed old xs new r → Puts gains cuts is_open failed old ys new r
  puts_same old new xs ys r e p = subst (λ ts. Puts gains cuts is_open failed old ts new r) e p

  module _ (stays : (s : S) → gains s [] s) where
    -- nothing was put
    pub puts_nothing : (s : S) (all : List Triple) → all ≡ [] → Puts gains cuts is_open failed s all s (Ok tt)
    puts_nothing s all e = record { takes = subst (λ ts. gains s ts s) (sym e) (stays s); ends = (refl, refl) }

    -- nothing was put because memory ran out
    pub no_memory : (s : S) (all : List Triple) → Puts gains cuts is_open failed s all s (Err Memory)
    no_memory s all = record {
      takes = record { front = []; rest = all; parts = refl; gained = stays s; cut = λ fails. absurd fails };
      ends = (refl, refl);
    }

  module _ (goes_on : (a b c : S) (xs ys : List Triple) → gains a xs b → gains b ys c → gains a (xs ++ ys) c) where
    -- a cut after more triples
    cut_later : (old mid new : S) (xs front rest : List Triple) → gains old xs mid → IsCutAfter gains cuts mid front rest new
        → IsCutAfter gains cuts old (xs ++ front) rest new
    cut_later old mid new xs front rest g k = record {
      middle = k.middle;
      before = goes_on old mid k.middle xs front g k.before;
      next = k.next;
      more = k.more;
      rest_is = k.rest_is;
      cut = k.cut;
    }

    -- these triples, and then those
    pub puts_then : (old mid new : S) (xs ys all : List Triple) (r : Result Unit SinkFault) → all ≡ xs ++ ys
        → Puts gains cuts is_open failed old xs mid (Ok tt) → Puts gains cuts is_open failed mid ys new r → Puts gains cuts is_open failed old all new r
    puts_then old mid new xs ys all (Ok u) same p q = record {
      takes = subst (λ ts. gains old ts new) (sym same) (goes_on old mid new xs ys p.takes q.takes);
      ends = ends_later old mid new (Ok u) p.ends q.ends;
    }
    puts_then old mid new xs ys all (Err e) same p q = record {
      takes = record {
        front = xs ++ q.takes.front;
        rest = q.takes.rest;
        parts = same ∙ ap (λ ts. xs ++ ts) q.takes.parts ∙ sym (append_assoc xs q.takes.front q.takes.rest);
        gained = goes_on old mid new xs q.takes.front p.takes q.takes.gained;
        cut = λ fails. cut_later old mid new xs q.takes.front q.takes.rest p.takes (q.takes.cut fails);
      };
      ends = ends_later old mid new (Err e) p.ends q.ends;
    }

    -- those failed, and more were to come
    pub puts_part : (old mid new : S) (xs ys rest all : List Triple) (e : SinkFault) → all ≡ (xs ++ ys) ++ rest
        → Puts gains cuts is_open failed old xs mid (Ok tt) → Puts gains cuts is_open failed mid ys new (Err e)
        → Puts gains cuts is_open failed old all new (Err e)
    puts_part old mid new xs ys rest all e same p q =
        puts_front old new (xs ++ ys) rest all e same (puts_then old mid new xs ys (xs ++ ys) (Err e) refl p q)
