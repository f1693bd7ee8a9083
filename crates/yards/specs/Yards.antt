-- The yard as a text, and eleven yards with one damage each.
use Rattle.std.specs.Prelude.{List, ◌++◌, ℕ, codes}

-- a yard, by the rows that are damaged below: joint K, ways E K and E L, what follows the signals, the requests of
-- E1 and LE, the activation of E1, the release of U_K_B, and the zone
abbrev pub a_yard : List ℕ → List ℕ → List ℕ → List ℕ → List ℕ → List ℕ → List ℕ → List ℕ → List ℕ → List ℕ
a_yard k ek el more e1 le a1 kb zone =
    codes "*SEG T_P *SEG T_1 *JOINT E T_P OUT " ++ (k
    ++ (codes "*JOINT L T_P OUT *JOINT B T_1 END *POINT P_1 T_P " ++ (ek ++ (el
    ++ (codes "*WAY T_1 K B *SIGNAL E T_P *SIGNAL L T_P " ++ (more
    ++ (codes "*DATA " ++ (e1 ++ (le ++ (a1
    ++ (codes "*A_R(LE) P_1 r, T_P c *P_1N U_IR(1) f *P_1R U_IR(1) f *U_E_K R_E1 xs, T_P c " ++ (kb
    ++ (codes "*U_L_E R_LE xs, T_P c " ++ zone)))))))))))))

abbrev pub joint_k : List ℕ
joint_k = codes "*JOINT K T_P T_1 "

abbrev pub way_ek : List ℕ
way_ek = codes "*WAY T_P E K P_1 n "

abbrev pub way_el : List ℕ
way_el = codes "*WAY T_P E L P_1 r "

abbrev pub more : List ℕ
more = codes ""

abbrev pub first_request : List ℕ
first_request = codes "*Q_R(E1) if R_E1 xs, P_1 cfn, U_IR(1) f, U_K_B f then R_E1 s, P_1 cn, U_IR(1) l, U_E_K l, U_K_B l "

abbrev pub second_request : List ℕ
second_request = codes "*Q_R(LE) if R_LE xs, P_1 cfr, U_IR(1) f then R_LE s, P_1 cr, U_IR(1) l, U_L_E l "

abbrev pub first_activation : List ℕ
first_activation = codes "*A_R(E1) P_1 n, T_P c, T_1 c "

abbrev pub release_kb : List ℕ
release_kb = codes "*U_K_B U_E_K f, T_1 c "

abbrev pub zone_1 : List ℕ
zone_1 = codes "*U_IR(1) U_E_K f, U_L_E f"

abbrev pub yard : List ℕ
yard = a_yard joint_k way_ek way_el more first_request second_request first_activation release_kb zone_1

-- joint K has T_1 on both sides
abbrev pub yard_11 : List ℕ
yard_11 = a_yard (codes "*JOINT K T_1 T_1 ") way_ek way_el more first_request second_request first_activation release_kb zone_1

-- way E K has no setting
abbrev pub yard_12 : List ℕ
yard_12 = a_yard joint_k (codes "*WAY T_P E K ") way_el more first_request second_request first_activation release_kb zone_1

-- ways E K and E L both lie with P_1 normal
abbrev pub yard_13 : List ℕ
yard_13 = a_yard joint_k way_ek (codes "*WAY T_P E L P_1 n ") more first_request second_request first_activation release_kb zone_1

-- a signal at the buffer stop
abbrev pub yard_14 : List ℕ
yard_14 = a_yard joint_k way_ek way_el (codes "*SIGNAL B T_1 ") first_request second_request first_activation release_kb zone_1

-- the locks of E1 the other way round
abbrev pub yard_21 : List ℕ
yard_21 = a_yard joint_k way_ek way_el more (codes "*Q_R(E1) if R_E1 xs, P_1 cfn, U_IR(1) f, U_K_B f then R_E1 s, P_1 cn, U_IR(1) l, U_K_B l, U_E_K l ") second_request first_activation release_kb zone_1

-- a signal at K on the way of E1
abbrev pub yard_22 : List ℕ
yard_22 = a_yard joint_k way_ek way_el (codes "*SIGNAL K T_1 ") first_request second_request first_activation release_kb zone_1

-- E1 does not test P_1 cfn
abbrev pub yard_23 : List ℕ
yard_23 = a_yard joint_k way_ek way_el more (codes "*Q_R(E1) if R_E1 xs, U_IR(1) f, U_K_B f then R_E1 s, P_1 cn, U_IR(1) l, U_E_K l, U_K_B l ") second_request first_activation release_kb zone_1

-- the activation of E1 does not test T_1 c
abbrev pub yard_24 : List ℕ
yard_24 = a_yard joint_k way_ek way_el more first_request second_request (codes "*A_R(E1) P_1 n, T_P c ") release_kb zone_1

-- U_K_B is released by T_1 c alone
abbrev pub yard_25 : List ℕ
yard_25 = a_yard joint_k way_ek way_el more first_request second_request first_activation (codes "*U_K_B T_1 c ") zone_1

-- the zone does not test U_L_E f
abbrev pub yard_26 : List ℕ
yard_26 = a_yard joint_k way_ek way_el more first_request second_request first_activation release_kb (codes "*U_IR(1) U_E_K f")

-- LE does not test the zone free
abbrev pub yard_27 : List ℕ
yard_27 = a_yard joint_k way_ek way_el more first_request (codes "*Q_R(LE) if R_LE xs, P_1 cfr then R_LE s, P_1 cr, U_IR(1) l, U_L_E l ") first_activation release_kb zone_1
