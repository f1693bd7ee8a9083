-- The tests of joints tell what lies at them.
use Rattle.std.proofs.Common.{◌≡◌, ℕ, eqb, length, Decides, refl, ap}
use Rattle.std.proofs.lemmas.Bool.Decides.{Decides-eqb, Decides-ltb, Decides-and, Decides-or, Decides-like}
use Rattle.station.specs.declared.tables.Beyond.{Beyond}
use Rattle.station.specs.declared.tables.Beyond.TheVariants.{Segment, Outside, BufferStop}
use Rattle.station.specs.Station.{Station}
use Rattle.station.specs.Numbers.{joint_at}
use Rattle.station.specs.Joints.{is_segment, is_stop, touches, Touches, signalled, Signalled}
use Rattle.station.proofs.Alike.{decides_signal}
use Rattle.firsts.proofs.Elements.{decides_has}

pub decides_is_segment : (b : Beyond) (t : ℕ) → Decides (is_segment b t) (b ≡ Segment t)
decides_is_segment (Segment s) t = Decides-like (eqb s t) (λ e. ap Segment e) (λ e. cc) (Decides-eqb s t)
decides_is_segment Outside t = (λ e. cc, λ e. cc)
decides_is_segment BufferStop t = (λ e. cc, λ e. cc)

pub decides_is_stop : (b : Beyond) → Decides (is_stop b) (b ≡ BufferStop)
decides_is_stop (Segment s) = (λ e. cc, λ e. cc)
decides_is_stop Outside = (λ e. cc, λ e. cc)
decides_is_stop BufferStop = (λ e. refl, λ e. refl)

pub decides_touches : (s : Station) (j t : ℕ) → Decides (touches s j t) (Touches s j t)
decides_touches s j t =
    Decides-like (touches s j t) (λ p. record { declared = p.0; side = p.1 }) (λ h. (h.declared, h.side)) (Decides-and _ _
    (Decides-ltb j (length s.joints))
    (Decides-or _ _ (Decides-eqb (joint_at s j).segment t) (decides_is_segment (joint_at s j).beyond t)))

pub decides_signalled : (s : Station) (j t : ℕ) → Decides (signalled s j t) (Signalled s j t)
decides_signalled s j t = decides_has decides_signal s.signals (record { joint = j; segment = t })
