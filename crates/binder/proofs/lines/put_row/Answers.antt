-- `binder::lines::put_row` meets its contract: a kind and its counts, or `other` and its counts. Assumes nothing.
use mathlib.Core.Path.{◌≡◌, subst⁻¹}
use mathlib.Core.List.{List}
use Prim.Native.Nat.{ℕ}
use native.Mathlib.Omega.{arith}
use Rattle.text.specs.Buffer.{Put}
use Rattle.text.proofs.Texts.{put_more, put_same}
use Rattle.binder.proofs.Rows.{kind_row, kind-row-short, other_row, other-row-short}
use Rattle.binder.proofs.lines.put_row.Goals as goal

pub shape_of-out-then-row-lt12 : goal.shape_of-out-then-row-lt12
shape_of-out-then-row-lt12 c =
    put_same (put_more (put_more c.put_number-kind.ensures c.put_byte-next.ensures) c.put_line.ensures)

pub returns-then-row-lt12 : goal.returns-then-row-lt12
returns-then-row-lt12 c =
    let row = c.args.row in
    let counts = c.args.counts.now in
    let bytes = kind_row row counts c.if-row-lt12.true in record {
      put = subst⁻¹ (λ (l' : List ℕ). Put c.args.out.now c.args.at l' c.put_line.new.out c.put_line.result) bytes
          (put_more (put_more c.put_number-kind.ensures c.put_byte-next.ensures) c.put_line.ensures);
      counts_len_bound = kind-row-short row counts c.if-row-lt12.true c.requires.1 (λ i. omega (arith, c.shared_slice_known-1.given i));
    }

pub shape_of-out : goal.shape_of-out
shape_of-out c = put_same (put_more c.put_text-next.ensures c.put_line-2.ensures)

pub returns : goal.returns
returns c =
    let row = c.args.row in
    let counts = c.args.counts.now in
    let last : row ≡ 12 = omega (arith, c.requires.0) in
    let bytes = other_row row counts last in record {
      put = subst⁻¹ (λ (l' : List ℕ). Put c.args.out.now c.args.at l' c.put_line-2.new.out c.put_line-2.result) bytes
          (put_more c.put_text-next.ensures c.put_line-2.ensures);
      counts_len_bound = other-row-short row counts last c.requires.1 (λ i. omega (arith, c.shared_slice_known-1.given i));
    }
