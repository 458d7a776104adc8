-- A list of requests and steps back asked by a host is answered as that list, on any history; and an accepted start among other calls begins anew. Assumes
-- nothing.
use mathlib.Core.Path.{◌≡◌, refl, ap, ◌∙◌}
use mathlib.Core.Bool.{Bool, true, cond}
use mathlib.Core.List.{List, [], ◌∷◌, map}
use lib.Dec.{eqb}
use Rattle.practice.specs.declared.FileLegs.{FileLegs}
use Rattle.practice.specs.File.{legs_allowed}
use Rattle.playing.specs.Playing.{legs_in_miles}
use Rattle.history.specs.declared.History.{History}
use Rattle.history.specs.History.{start_of}
use Rattle.taken_back.specs.Calls.{Call, request, back, called}
use Rattle.host.specs.Calls.{HostCall, start, Reply, number_alone}
use Rattle.host.specs.Calls.{reply_of, left_by}
use Rattle.host_calls.specs.HostCalls.{replies_of, left_by_all}
use Rattle.host_calls.specs.FromStart.{as_host_call, reply_to, AsCalled, BegunAnew}

-- ---- requests and steps back
one_reply : (h : History) (c : Call) → reply_of h (as_host_call c) ≡ reply_to (c, (called h c).answer)
one_reply h (request r) = refl
one_reply h (back desk) = refl

one_left : (h : History) (c : Call) → left_by h (as_host_call c) ≡ (called h c).after
one_left h (request r) = refl
one_left h (back desk) = refl

pub as_called : (h : History) (cs : List Call) → AsCalled h cs
as_called h [] = record { replies = refl; left = refl }
as_called h (c ∷ cs) =
    let rest = as_called (called h c).after cs in
    record {
      replies = λ i. one_reply h c i ∷ (ap (λ (g : History). replies_of g (map as_host_call cs)) (one_left h c) ∙ rest.replies) i;
      left = ap (λ (g : History). left_by_all g (map as_host_call cs)) (one_left h c) ∙ rest.left;
    }

-- ---- an accepted start
module _ (legs : FileLegs) (e : legs_allowed legs ≡ true) (ds : List HostCall) where
  abbrev begun : History
  begun = start_of (legs_in_miles legs)

  started : (h : History) → left_by h (start legs) ≡ begun
  started h = ap (λ (b : Bool). cond (eqb (cond b 0 7) 0) begun h) e

  started_reply : (h : History) → reply_of h (start legs) ≡ number_alone 0
  started_reply h = ap (λ (b : Bool). number_alone (cond b 0 7)) e

  pub begun_anew : (h : History) (cs : List HostCall) → BegunAnew h cs legs ds
  begun_anew h [] = record {
    replies = λ i. started_reply h i ∷ ap (λ (g : History). replies_of g ds) (started h) i;
    left = ap (λ (g : History). left_by_all g ds) (started h);
  }
  begun_anew h (c ∷ cs) =
      let rest = begun_anew (left_by h c) cs in
      record { replies = ap (λ (rs : List Reply). reply_of h c ∷ rs) rest.replies; left = rest.left }
