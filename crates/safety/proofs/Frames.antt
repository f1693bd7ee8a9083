-- What is said of a train whose record stays, when another train's changes.
use Rattle.std.proofs.Common.{◌≡◌, ℕ, ap, ◌∙◌}
use Rattle.safety.proofs.Plan.{Plan}
use Rattle.safety.proofs.Situation.{Situation, front_of, rear_of, joint_of, with_trains}
use Rattle.safety.proofs.Invariant.{Owner, OnRoute, Facing}
use Rattle.track.specs.Trains.{Train}

module _ (S : Plan) (st : Situation) (trains : ℕ → Train) (t : ℕ) (e : trains t ≡ st.trains t) where
  pub frame_route : (owner : ℕ → Owner) (r k : ℕ) → OnRoute S st owner t r k → OnRoute S (with_trains st trains) owner t r k
  frame_route owner r k q =
      record {
        r_known = q.r_known;
        k_in = q.k_in;
        in_it = ap front_of e ∙ q.in_it;
        by_it = ap joint_of e ∙ q.by_it;
        locked = q.locked;
        points = q.points;
        owned = q.owned;
      }

  pub frame_facing : (f : ℕ) → Facing S st t f → Facing S (with_trains st trains) t f
  frame_facing f q =
      record {
        one = ap rear_of e ∙ q.one;
        v = q.v;
        x = q.x;
        n = q.n;
        v_known = q.v_known;
        here = q.here;
        by_it = ap joint_of e ∙ q.by_it;
        points = q.points;
        over = q.over;
        signal = q.signal;
      }
