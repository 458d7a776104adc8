-- What is known of a file that passes the tests, and of one that is accepted. Assumes nothing.
use mathlib.Core.Path.{◌≡◌}
use mathlib.Core.List.{List, [], ◌∷◌}
use mathlib.Core.Bool.{Bool, true, ◌&&◌}
use Prim.Native.Nat.{ℕ, ◌+◌, ◌%◌, ◌≤◌}
use native.Mathlib.Omega.{arith}
use lib.Dec.{eqb, leb}
use lib.ListN.{length, take}
use borrow.Author.Tests.{eqb-true, leb-true, eq-eqb, le-leb}
use Rattle.limits.specs.Limits.{longest_leg, longest_body, longest_file}
use Rattle.request.specs.Input.{within}
use Rattle.request.proofs.InputTests.{both_left, both_right, within_low, within_high, passed}
use Rattle.practice.specs.declared.FileLegs.{FileLegs}
use Rattle.practice.specs.File.{number16, letters, are_the_same_bytes, opens, entry_is, body_length, contents_allowed, legs_of, legs_body, legs_allowed, file_number}

-- the length of a file that opens right
pub record Opened (file : List ℕ) : Type 0 where
  pub low : 26 ≤ length file
  pub high : length file ≤ longest_file

pub opened : (file : List ℕ) → opens file ≡ true → Opened file
unfolding opens
opened file e =
    let t = both_left (within 26 longest_file (length file)) (are_the_same_bytes (take 4 file) letters) e in
    record { low = within_low 26 longest_file (length file) t; high = within_high 26 longest_file (length file) t }

-- the length of a file whose contents are allowed
pub record Whole (file : List ℕ) : Type 0 where
  pub sixes : body_length file % 6 ≡ 0
  pub bounded : body_length file ≤ longest_body
  pub whole : 34 + body_length file ≡ length file

module _ (file : List ℕ) where
  abbrev entries : Bool
  entries = eqb (number16 file 4) 2 && entry_is file 6 1 26 8 && entry_is file 16 2 34 (body_length file)

  pub whole_of : contents_allowed file ≡ true → Whole file
  unfolding contents_allowed
  whole_of e =
      let s = eqb (body_length file % 6) 0 in
      let b = leb (body_length file) longest_body in
      let w = eqb (34 + body_length file) (length file) in
      let eb = both_left (entries && s && b) w e in
      record {
        sixes = eqb-true (body_length file % 6) 0 (both_right entries s (both_left (entries && s) b eb));
        bounded = leb-true (body_length file) longest_body (both_right (entries && s) b eb);
        whole = eqb-true (34 + body_length file) (length file) (both_right (entries && s && b) w e);
      }

  -- and the other way
  pub contents_of : eqb (number16 file 4) 2 ≡ true → entry_is file 6 1 26 8 ≡ true → entry_is file 16 2 34 (body_length file) ≡ true → Whole file → contents_allowed file ≡ true
  unfolding contents_allowed
  contents_of c f s w = simp (c, f, s, eq-eqb (body_length file % 6) 0 w.sixes, le-leb (body_length file) longest_body w.bounded, eq-eqb (34 + body_length file) (length file) w.whole)

  pub long_enough : contents_allowed file ≡ true → 34 ≤ length file
  long_enough e = let w = whole_of e in omega arith

-- legs that are allowed, each from 1 64th to the longest leg
pub record LegKnown (n : ℕ) : Type 0 where
  pub low : 1 ≤ n
  pub high : n ≤ longest_leg

pub record LegsKnown (legs : FileLegs) : Type 0 where
  pub base : LegKnown legs.base
  pub intermediate : LegKnown legs.intermediate
  pub final_leg : LegKnown legs.final_approach
  pub missed : LegKnown legs.missed

pub legs_known : (legs : FileLegs) → legs_allowed legs ≡ true → LegsKnown legs
unfolding legs_allowed
legs_known legs e =
    let b = within 1 longest_leg legs.base in
    let i = within 1 longest_leg legs.intermediate in
    let l = within 1 longest_leg legs.final_approach in
    let m = within 1 longest_leg legs.missed in
    let bil = both_left (b && i && l) m e in
    let bi = both_left (b && i) l bil in
    record {
      base = known legs.base (both_left b i bi);
      intermediate = known legs.intermediate (both_right b i bi);
      final_leg = known legs.final_approach (both_right (b && i) l bil);
      missed = known legs.missed (both_right (b && i && l) m e);
    }
  where
    known : (n : ℕ) → within 1 longest_leg n ≡ true → LegKnown n
    known n t = record { low = within_low 1 longest_leg n t; high = within_high 1 longest_leg n t }

-- a file that is accepted passes all tests
pub record AcceptedFile (file : List ℕ) : Type 0 where
  pub opening : opens file ≡ true
  pub contents : contents_allowed file ≡ true
  pub legs : legs_allowed (legs_of (legs_body file)) ≡ true

pub accepted : (file : List ℕ) → file_number file ≡ 0 → AcceptedFile file
unfolding file_number
accepted file e =
    let p = passed ((5, opens file) ∷ (6, contents_allowed file) ∷ (7, legs_allowed (legs_of (legs_body file))) ∷ []) (tt, (tt, (tt, tt))) e in
    record { opening = p.0; contents = p.1.0; legs = p.1.1.0 }
