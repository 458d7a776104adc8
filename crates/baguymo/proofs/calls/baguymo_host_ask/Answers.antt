-- `baguymo::calls::baguymo_host_ask` meets its contract: the request of the parts, or the number that refuses them. Assumes nothing.
use mathlib.Core.Path.{◌≡◌, ap, ◌∙◌}
use Prim.Native.Nat.{ℕ}
use Rattle.request.specs.declared.Request.{Request}
use Rattle.host.specs.Calls.{Reply, ask, reply_on, bytes_left}
use Rattle.baguymo.proofs.NarrowedParts.{narrow_request, parts_replied, parts_left}
use Rattle.baguymo.proofs.calls.baguymo_host_ask.Goals as goal

abbrev handed_on : ℕ → ℕ → ℕ → ℕ → ℕ → Request
handed_on kind side number amount desk = record { kind = kind; side = side; number = number; amount = amount; desk = desk }

pub returns : goal.returns
returns c =
    let parts = c.args in
    let state = parts.state.now in
    let wide : Request = record { kind = parts.kind; side = parts.side; number = parts.number; amount = parts.amount; desk = parts.desk } in
    -- the request that is handed on
    let handed : handed_on c.in_8.result c.in_8-2.result c.number_in_16.result c.in_16.result c.in_8-3.result ≡ narrow_request wide =
    λ i. handed_on (c.in_8.ensures i) (c.in_8-2.ensures i) (c.number_in_16.ensures i) (c.in_16.ensures i) (c.in_8-3.ensures i) in
    let reply = ap (λ (r : Request). reply_on state (ask r)) handed ∙ parts_replied state wide in
    record {
      value = c.ask.ensures.value ∙ ap (λ (r : Reply). r.number) reply;
      answer_after = c.ask.ensures.answer_after ∙ ap (λ (r : Reply). r.numbers) reply;
      state_after = c.ask.ensures.state_after ∙ ap (λ (r : Request). bytes_left state (ask r)) handed ∙ parts_left state wide;
    }
