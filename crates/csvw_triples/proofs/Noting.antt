-- The triples of annotations are their graph.
use Rattle.std.proofs.Common.{◌≡◌, ℕ, ◌+◌, List, ◌++◌, map, refl, sym, ap, subst, inl, inr, Contains, arith}
use Rattle.std.proofs.lemmas.List.Elements.{Contains-append_left, Contains-append_right, Contains-append_cases}
use Rattle.csvw_triples_core.specs.declared.term.Node.{Node}
use Rattle.csvw_triples_core.specs.declared.term.Triple.{Triple}
use Rattle.csvw_triples.specs.Annotations.{Said, literal, object, Annotations, nothing, says}
use Rattle.csvw_triples.specs.NoteGraph.{followed_by, Stands, Notes, linked, of_kind, within}
use Rattle.csvw_triples.specs.Blanks.{is_blank, blanks_of, blanks, object_node}
use Rattle.csvw_triples.specs.NotesTriples.{link_triple, kind_triple, object_triples, notes_triples, note_triples}
use Rattle.csvw_triples.proofs.InLists.{none_in, first_in, later_in, in_cons, from_map, to_map}

-- places

first_stands : (n : ℕ) (key : List ℕ) (said : Said) (rest : Annotations) → Stands n (says key said rest) n key said
first_stands n key said rest = (nothing, rest, refl, omega arith)

later_stands : (n k : ℕ) (key said_key : List ℕ) (front said : Said) (rest : Annotations) (m : ℕ) → k ≡ n + blanks_of front → Stands k rest m key said
    → Stands n (says said_key front rest) m key said
later_stands n k key said_key front said rest m e s = (says said_key front s.0, s.1, ap (says said_key front) s.2, omega (arith, e, s.3))

module _ (x : Triple) where
  -- from the list

  later : {s : Node} {k : ℕ} {rest : Annotations} (n : ℕ) (front_key : List ℕ) (front : Said) → k ≡ n + blanks_of front → Notes x s k rest
      → Notes x s n (says front_key front rest)
  later n front_key front at (linked m key said st e) = linked m key said (later_stands n _ key front_key front said _ m at st) e
  later n front_key front at (of_kind m key id types inner kind st h e) =
      of_kind m key id types inner kind (later_stands n _ key front_key front (object id types inner) _ m at st) h e
  later n front_key front at (within m key id types inner st h) =
      within m key id types inner (later_stands n _ key front_key front (object id types inner) _ m at st) h

  mutual
    from_object : (n : ℕ) (said : Said) (s : Node) (key : List ℕ) (rest : Annotations) → Contains (object_triples n said) x → Notes x s n (says key said rest)
    from_object n (literal lit) s key rest h = absurd (none_in x h)
    from_object n (object id types inner) s key rest h =
        let at = first_stands n key (object id types inner) rest in
        elim (Contains-append_cases (map (kind_triple (object_node n id)) types) (notes_triples (object_node n id) (n + is_blank id) inner) x h) [
          | inl k ↦ let f = from_map (kind_triple (object_node n id)) types x k in of_kind n key id types inner f.0 at f.1 f.2
          | inr k ↦ within n key id types inner at (from_notes (object_node n id) (n + is_blank id) inner k)
        ]

    pub from_notes : (s : Node) (n : ℕ) (notes : Annotations) → Contains (notes_triples s n notes) x → Notes x s n notes
    from_notes s n nothing h = absurd (none_in x h)
    from_notes s n (says key said rest) h =
        let others = notes_triples s (n + blanks_of said) rest in
        elim (in_cons (link_triple s n key said) (object_triples n said ++ others) x h) [
          | inl e ↦ linked n key said (first_stands n key said rest) e
          | inr k ↦ elim (Contains-append_cases (object_triples n said) others x k) [
            | inl l ↦ from_object n said s key rest l
            | inr l ↦ later n key said refl (from_notes s (n + blanks_of said) rest l)
          ]
        ]

  -- to the list

  at_place : (s : Node) (n m : ℕ) (before after : Annotations) (key : List ℕ) (said : Said) → m ≡ n + blanks before → Contains (note_triples s m (key, said)) x
      → Contains (notes_triples s n (followed_by before (says key said after))) x
  at_place s n m nothing after key said e h =
      let same : m ≡ n = omega (arith, e) in
      let here = subst (λ k. Contains (note_triples s k (key, said)) x) same h in
      Contains-append_left (note_triples s n (key, said)) (notes_triples s (n + blanks_of said) after) x here
  at_place s n m (says front_key front rest) after key said e h =
      Contains-append_right (note_triples s n (front_key, front)) (notes_triples s (n + blanks_of front) (followed_by rest (says key said after))) x
      (at_place s (n + blanks_of front) m rest after key said (omega (arith, e)) h)

  stands_in : (s : Node) (n : ℕ) (notes : Annotations) (m : ℕ) (key : List ℕ) (said : Said) → Stands n notes m key said
      → Contains (note_triples s m (key, said)) x → Contains (notes_triples s n notes) x
  stands_in s n notes m key said st h = subst (λ ns. Contains (notes_triples s n ns) x) (sym st.2) (at_place s n m st.0 st.1 key said st.3 h)

  pub to_notes : {s : Node} {n : ℕ} {notes : Annotations} → Notes x s n notes → Contains (notes_triples s n notes) x
  to_notes {s} {n} {notes} (linked m key said st e) =
      stands_in s n notes m key said st (first_in (link_triple s m key said) (object_triples m said) x e)
  to_notes {s} {n} {notes} (of_kind m key id types inner kind st h e) =
      let node = object_node m id in
      let kinds = map (kind_triple node) types in
      let others = notes_triples node (m + is_blank id) inner in
      stands_in s n notes m key (object id types inner) st
      (later_in (link_triple s m key (object id types inner)) (kinds ++ others) x
      (Contains-append_left kinds others x (to_map (kind_triple node) types kind x h e)))
  to_notes {s} {n} {notes} (within m key id types inner st h) =
      let node = object_node m id in
      let kinds = map (kind_triple node) types in
      let others = notes_triples node (m + is_blank id) inner in
      stands_in s n notes m key (object id types inner) st
      (later_in (link_triple s m key (object id types inner)) (kinds ++ others) x (Contains-append_right kinds others x (to_notes h)))
