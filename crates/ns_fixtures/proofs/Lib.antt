mod RingLaws
